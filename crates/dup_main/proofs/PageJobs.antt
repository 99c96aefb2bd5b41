-- The pages of a content, written one after another: each shows an object that can be expanded.
use Rattle.std.proofs.Common.{◌≡◌, ℕ, zero, suc, ◌<◌, List, [], ◌∷◌, ◌++◌, length, get_or, refl, sym, arith, ◌∙◌, ap, subst, drop, take, add-one, append_assoc, append-nil, ◌+◌}
use Rattle.std.proofs.Math.Seq.{drop-cons}
use Rattle.std.specs.Prelude.{Option, Some, None, Result, Ok, Err, IfErr, IsErrAnd}
use Rattle.dup_io.specs.Causes.{AppendsPrefix}
use Rattle.dup_main.specs.Breaks.{BreaksPages}
use Rattle.dup_main.specs.declared.stop.Stop.{Stop}
use Rattle.dup_main.specs.declared.stop.Stop.TheVariants as stops
use Rattle.dup_main.proofs.Prefixes.{prefix_behind, prefix_longer}
use Rattle.std.specs.Io.KnownBytes.{Appends}
use Rattle.std.proofs.KnownBytes.{Appends-nil, Appends-trans}
use Rattle.std.specs.List.{AllByRecursion, flat_map}
use Rattle.dup_names.specs.Words.{Word, Path}
use Rattle.dup_names.specs.declared.object.Obj.{Obj}
use Rattle.dup_template.specs.Good.{IsGood, site_fault}
use Rattle.dup_template.specs.declared.refusal.SiteRefusal.{SiteRefusal}
use Rattle.dup_template.specs.declared.site.Parts.{Parts}
use Rattle.dup_site.specs.Spelling.{text_says}
use Rattle.dup_model.specs.Content.{Content, start}
use Rattle.dup_model.specs.Jobs.{IsJob, JobsFit}
use Rattle.dup_model.specs.Pages.{pages}
use Rattle.dup_site.specs.Reads.{if_said, site_says, unless_broken}
use Rattle.dup_transcript.specs.BadSites.{or_cause}
use Rattle.dup_transcript.specs.RenderedPages.{rendered_page, rendered_pages}
use Rattle.dup_model.proofs.GoodSites.{good_jobs_fit}
use Rattle.dup_model.proofs.Jobs.{pages_are_jobs}

module _ (c : Content) where
  one_of : (ps : List (Path × Obj)) (i : ℕ) (page : Path × Obj) → AllByRecursion (λ (p : Path × Obj). IsJob c.frame p.1) ps → i < length ps → page ≡ get_or ps i page → IsJob c.frame page.1
  one_of [] i page all below is = absurd (omega (arith, below))
  one_of (p ∷ ps) zero page all below is = rw is all.0
  one_of (p ∷ ps) (suc i) page all below is = one_of ps i page all.1 (omega (arith, below)) is

pub page_is_job : (c : Content) (ps : List (Path × Obj)) (i : ℕ) (page : Path × Obj) → JobsFit c → ps ≡ pages c → i < length ps → page ≡ get_or ps i page → IsJob c.frame page.1
page_is_job c ps i page fit are below is = one_of c ps i page (rw are (pages_are_jobs c fit)) below is

-- the first content of a good site
pub first_fits : (text : Word) (site : Parts) (c : Content) → or_cause (site_says text) ≡ Ok site → c ≡ start site → JobsFit c
first_fits text site c good is = good_jobs_fit site c (said (text_says text) good) (rw is (record { frame = refl; bodies = refl }))
  where
    unbroken : (made : Parts) (o : Option SiteRefusal) → site_fault made ≡ o → or_cause (unless_broken made o) ≡ Ok site → IsGood site
    unbroken made None none is = let e : made ≡ site = cc in subst IsGood e none
    unbroken made (Some why) none is = absurd (cc)

    said : (r : Result Parts ℕ) → or_cause (if_said r) ≡ Ok site → IsGood site
    said (Ok made) is = unbroken made (site_fault made) refl is
    said (Err n) is = absurd (cc)

-- the first pages were written
abbrev pub Written : Content → List (Path × Obj) → ℕ → Option Word → Option Word → Type 0
Written c ps i old new = (done : Word) × Appends old new done × (done ++ flat_map (rendered_page c) (drop i ps) ≡ flat_map (rendered_page c) ps)
    × (done ≡ flat_map (rendered_page c) (take i ps))

one_more : (c : Content) (ps : List (Path × Obj)) (i : ℕ) (page : Path × Obj) (done all : Word) → i < length ps → page ≡ get_or ps i page
    → done ++ flat_map (rendered_page c) (drop i ps) ≡ all → (done ++ rendered_page c page) ++ flat_map (rendered_page c) (drop (i + 1) ps) ≡ all
one_more c ps i page done all below is same =
    let cut : drop i ps ≡ page ∷ drop (i + 1) ps = rw (drop-cons ps i page, add-one) (ap (λ (d : Path × Obj). d ∷ drop (suc i) ps) (sym is)) in
    append_assoc done (rendered_page c page) (flat_map (rendered_page c) (drop (i + 1) ps)) ∙ sym (ap (λ (l : List (Path × Obj)). done ++ flat_map (rendered_page c) l) cut) ∙ same

-- the pages up to one, and that one
taken : (c : Content) (ps : List (Path × Obj)) (i : ℕ) (page : Path × Obj) → i < length ps → page ≡ get_or ps i page
    → flat_map (rendered_page c) (take i ps) ++ rendered_page c page ≡ flat_map (rendered_page c) (take (i + 1) ps)
taken c [] i page below is = absurd (omega (arith, below))
taken c (p ∷ ps) zero page below is = ap (λ (q : Path × Obj). rendered_page c q) is ∙ sym (append-nil (rendered_page c p))
taken c (p ∷ ps) (suc i) page below is =
    append_assoc (rendered_page c p) (flat_map (rendered_page c) (take i ps)) (rendered_page c page)
    ∙ ap (λ (l : Word). rendered_page c p ++ l) (taken c ps i page (omega (arith, below)) is)
    ∙ ap (λ (k : ℕ). flat_map (rendered_page c) (take k (p ∷ ps))) (let h : suc (i + 1) ≡ suc i + 1 = omega arith in h)

pub more_written : (c : Content) (ps : List (Path × Obj)) (i : ℕ) (page : Path × Obj) (old mid new : Option Word) (sent text : Word) → Written c ps i old mid
    → i < length ps → page ≡ get_or ps i page → Appends mid new sent → sent ≡ text → text ≡ rendered_page c page → Written c ps (i + 1) old new
more_written c ps i page old mid new sent text w below is put same shows = (
  w.0 ++ rendered_page c page,
  Appends-trans old mid new _ _ w.1 (subst (Appends mid new) (same ∙ shows) put),
  one_more c ps i page w.0 (flat_map (rendered_page c) ps) below is w.2,
  ap (λ (l : Word). l ++ rendered_page c page) w.3 ∙ taken c ps i page below is,
)

-- the pages break off for want of memory
pub breaks_pages : {X : Type 0} (result : Result X Stop) (c : Content) (ps : List (Path × Obj)) (i : ℕ) (old new : Option Word) → ps ≡ pages c → Written c ps i old new
    → IsErrAnd result (λ stop. stop ≡ stops.NoMemory) → IfErr result (λ stop. BreaksPages stop c old new)
breaks_pages (Ok x) c ps i old new are w is = tt
breaks_pages (Err stop) c ps i old new are w is =
    subst (λ (s : Stop). BreaksPages s c old new) (sym is) (i, subst (λ (l : List (Path × Obj)). Appends old new (flat_map (rendered_page c) (take i l))) are (subst (Appends old new) w.3 w.1))

-- before any page
pub breaks_at_once : {X : Type 0} (result : Result X Stop) (c : Content) (old : Option Word) → IsErrAnd result (λ stop. stop ≡ stops.NoMemory) → IfErr result (λ stop. BreaksPages stop c old old)
breaks_at_once (Ok x) c old is = tt
breaks_at_once (Err stop) c old is = subst (λ (s : Stop). BreaksPages s c old old) (sym is) (0, Appends-nil old)

-- and in a page for a fault of writing
pub breaks_on_write : {X : Type 0} (result : Result X Stop) (c : Content) (ps : List (Path × Obj)) (i : ℕ) (page : Path × Obj) (old mid new : Option Word) (sent text : Word) → ps ≡ pages c
    → Written c ps i old mid → i < length ps → page ≡ get_or ps i page → AppendsPrefix mid new sent → sent ≡ text → text ≡ rendered_page c page
    → IsErrAnd result (λ stop. stop ≡ stops.WriteFault) → IfErr result (λ stop. BreaksPages stop c old new)
breaks_on_write (Ok x) c ps i page old mid new sent text are w below is put same shows stop = tt
breaks_on_write (Err e) c ps i page old mid new sent text are w below is put same shows stop =
    let part : AppendsPrefix old new (w.0 ++ rendered_page c page) = prefix_behind old mid new w.0 (rendered_page c page) w.1 (subst (AppendsPrefix mid new) (same ∙ shows) put) in
    let whole : (w.0 ++ rendered_page c page) ++ flat_map (rendered_page c) (drop (i + 1) ps) ≡ rendered_pages c =
    one_more c ps i page w.0 (flat_map (rendered_page c) ps) below is w.2 ∙ ap (flat_map (rendered_page c)) are in
    subst (λ (s : Stop). BreaksPages s c old new) (sym stop) (subst (AppendsPrefix old new) whole (prefix_longer old new (w.0 ++ rendered_page c page) (flat_map (rendered_page c) (drop (i + 1) ps)) part))
