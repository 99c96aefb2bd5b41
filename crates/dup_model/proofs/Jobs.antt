-- What a work finds can be expanded.
use Rattle.std.proofs.Common.{◌≡◌, ℕ, zero, suc, inl, inr, Bool, true, false, cond, ◌||◌, ◌==◌, List, [], ◌∷◌, ◌++◌, map, length, refl, sym, subst, ◌∙◌}
use Rattle.std.specs.Prelude.{Option, Some, None, if◌then◌else◌, is_some}
use Rattle.std.specs.Option.{is_none}
use Rattle.std.specs.List.{list_all, flat_map, AllByRecursion}
use Rattle.std.proofs.lemmas.Bool.{true≢false, or_cases, and_parts}
use Rattle.std.proofs.lemmas.Bool.Decides.{eqb_tells}
use Rattle.dup_names.specs.Grammar.{is_key}
use Rattle.dup_names.specs.Order.{obj_cmp, text_cmp}
use Rattle.dup_names.specs.declared.object.Obj.{Obj}
use Rattle.dup_names.specs.declared.object.Item.{Item}
use Rattle.dup_names.specs.declared.object.Item.TheVariants as item
use Rattle.dup_template.specs.declared.site.PageRule.{PageRule}
use Rattle.dup_template.specs.declared.site.PageRule.TheVariants.{Fixed, Family}
use Rattle.dup_template.specs.declared.statement.Statement.{Statement, roll-Statement}
use Rattle.dup_template.specs.declared.statement.Statement.TheOpen.{Statement-F}
use Rattle.dup_template.specs.declared.statement.Statement.TheFolds.{ind-Statement, fold-roll-Statement, map-Statement}
use Rattle.dup_model.specs.declared.mark.Mark.{Mark}
use Rattle.dup_model.specs.declared.mark.Mark.TheVariants as mark
use Rattle.dup_names.specs.Words.{Word, Path, in_order}
use Rattle.dup_model.specs.Content.{Content, text, row, keys, group}
use Rattle.dup_model.specs.Names.{kind_at, field_at, template_at, kind_of, object_of, page_path, kind_named}
use Rattle.dup_model.specs.Here.{Here, row_at, on_key, by_field}
use Rattle.dup_model.specs.Marks.{marks, marks_step, statement_marks, body_marks, here_at, field_marks, if_marks, via_marks}
use Rattle.dup_model.specs.Content.{body_at}
use Rattle.dup_model.specs.Turns.{bodies, turns, each_marks, group_marks}
use Rattle.dup_model.specs.Links.{link, link_via, linked_to, opening, closing}
use Rattle.dup_model.specs.Skeletons.{embeds, hole_of}
use Rattle.dup_model.specs.Looks.{down, reached_from}
use Rattle.dup_model.specs.Pages.{pages, pages_of, keys_of}
use Rattle.dup_names.specs.Objects.{is_in, same_obj}
use Rattle.dup_model.specs.Found.{found}
use Rattle.dup_model.specs.Jobs.{is_template, IsJob, all_fit, fits_step, statement_fits, body_fits, page_fits, JobsFit, FoundAreJobs}
use Rattle.dup_model.proofs.EachMark.{all_append}
use Rattle.dup_model.proofs.Induction.{within}
use Rattle.dup_names.proofs.ObjectOrder.{obj_same}
use Rattle.dup_model.proofs.Ordering.{all_in_order}
use Rattle.dup_model.proofs.Earlier.{down_at, down_past}

all_flat : {A B : Type 0} (P : B → Type 0) (f : A → List B) → ((x : A) → AllByRecursion P (f x)) → (xs : List A) → AllByRecursion P (flat_map f xs)
all_flat P f each [] = tt
all_flat P f each (x ∷ xs) = all_append P (f x) (flat_map f xs) (each x) (all_flat P f each xs)

module _ (c : Content) where
  abbrev HoleFits : Mark → Type 0
  HoleFits (mark.Hole o) = IsJob c.frame o
  HoleFits _ = Unit {0}

  abbrev All : List Mark → Type 0
  All = AllByRecursion HoleFits

  -- there is a row where one is promised
  abbrev InRow : Bool → Here → Type 0
  InRow in_row here = in_row ≡ true → is_some here.key ≡ true

  abbrev Fine : Statement → Type 0
  Fine s = (in_row : Bool) (here : Here) → InRow in_row here → statement_fits c.frame s in_row ≡ true → All (statement_marks c s here)

  abbrev Kid : Type 0
  Kid = (s : Statement) × Fine s

  kept_job : (template : ℕ) (key : Option Word) → is_template c.frame template ≡ true → (is_some (kind_of c.frame template) ≡ true → is_some key ≡ true) → IsJob c.frame (object_of c.frame template key)
  kept_job template key there needs = by_kind (kind_of c.frame template) refl needs
    where
      by_kind : (k : Option Word) → kind_of c.frame template ≡ k → (is_some k ≡ true → is_some key ≡ true) → IsJob c.frame (object_of c.frame template key)
      by_kind None is needs = record { exists = there; keyed = rw is refl }
      by_kind (Some k) is needs = record { exists = there; keyed = rw is (needs refl) }

  all_body : (body : List Kid) (in_row : Bool) (here : Here) → InRow in_row here → all_fit (map (statement_fits c.frame) (map (λ e. e.0) body)) in_row ≡ true → All (body_marks c (map (λ e. e.0) body) here)
  all_body [] in_row here row fits = tt
  all_body (e ∷ es) in_row here row fits =
      let both : (statement_fits c.frame e.0 in_row ≡ true) × (all_fit (map (statement_fits c.frame) (map (λ e. e.0) es)) in_row ≡ true) = and_parts _ _ fits in
      all_append HoleFits (statement_marks c e.0 here) (body_marks c (map (λ e. e.0) es) here) (e.1 in_row here row both.0) (all_body es in_row here row both.1)

  all_cond : (b : Bool) (xs ys : List Mark) → All xs → All ys → All (if b then xs else ys)
  all_cond true xs ys h k = h
  all_cond false xs ys h k = k

  all_on_key : (k : Option Word) (f : Word → List Mark) → ((key : Word) → All (f key)) → All (on_key k f)
  all_on_key None f each = tt
  all_on_key (Some key) f each = each key

  all_reads : (kind field : ℕ) (ks : List Word) → All (map (λ q. mark.Read (item.Field kind q field)) ks)
  all_reads kind field [] = tt
  all_reads kind field (q ∷ qs) = (tt, all_reads kind field qs)

  all_turns : (kind : ℕ) (order : Option Word) (f : Here → List Mark) → ((q : Word) → All (f (row_at kind (Some q)))) → (it : Item) (ks : List Word) → All (turns c kind order f it ks)
  all_turns kind None f each it ks = (tt, all_flat HoleFits (λ q. f (row_at kind (Some q))) each ks)
  all_turns kind (Some order) f each it ks = (
    tt,
    all_append HoleFits (map (λ q. mark.Read (item.Field kind q (field_at c.frame kind order))) ks) (bodies kind f (in_order (by_field c kind (field_at c.frame kind order)) ks))
        (all_reads kind (field_at c.frame kind order) ks)
        (all_flat HoleFits (λ q. f (row_at kind (Some q))) each (in_order (by_field c kind (field_at c.frame kind order)) ks)),
  )

  all_each : (name : Word) (by order : Option Word) (f : Here → List Mark) → ((kind : ℕ) (q : Word) → All (f (row_at kind (Some q)))) → (key : Option Word) → All (each_marks c name by order f key)
  all_each name None order f each key = all_turns (kind_at c.frame name) order f (each (kind_at c.frame name)) (item.List (kind_at c.frame name)) (keys c (kind_at c.frame name))
  all_each name (Some by) order f each key =
      all_on_key key (group_marks c name by order f) (λ k.
      all_turns (kind_at c.frame name) order f (each (kind_at c.frame name)) (item.Group (kind_at c.frame name) (field_at c.frame (kind_at c.frame name) by) k) (group c (kind_at c.frame name) (field_at c.frame (kind_at c.frame name) by) k))

  all_linked : (path : Option Word) (xs : List Mark) → All xs → All (linked_to path xs)
  all_linked None xs h = h
  all_linked (Some path) xs h = all_append HoleFits (opening path) (xs ++ closing) (tt, (tt, tt)) (all_append HoleFits xs closing h (tt, tt))

  all_link : (name : Word) (kind : Option ℕ) (key : Option Word) (xs : List Mark) → All xs → All (link c name kind key xs)
  all_link name None key xs h = all_linked (page_path c.frame name None) xs h
  all_link name (Some kind) None xs h = h
  all_link name (Some kind) (Some key) xs h = (tt, all_linked (if is_some (row c kind key) then page_path c.frame name (Some key) else None) xs h)

  from_none : (o : Option Word) (b : Bool) → (is_none o || b) ≡ true → is_some o ≡ true → b ≡ true
  from_none None b h some = absurd (true≢false (sym some))
  from_none (Some x) b h some = h

  step : (y : Statement-F Kid) (in_row : Bool) (here : Here) → InRow in_row here →
      fits_step c.frame (within Fine (Bool → Bool) (statement_fits c.frame) y) in_row ≡ true →
      All (marks_step c (within Fine (Here → List Mark) (statement_marks c) y) here)
  step (Statement-F.Say w) in_row here row fits = (tt, tt)
  step Statement-F.Nl in_row here row fits = (tt, tt)
  step (Statement-F.Field n) in_row here row fits = all_on_key here.key (field_marks c here.kind n) (λ key. (tt, (tt, tt)))
  step Statement-F.Key in_row here row fits = all_on_key here.key (λ key. mark.Plain key ∷ []) (λ key. (tt, tt))
  step (Statement-F.If n body) in_row here row fits =
      all_on_key here.key (if_marks c here.kind n (body_marks c (map (λ e. e.0) body) here)) (λ key.
      (tt, all_cond (length (text c here.kind key (field_at c.frame here.kind n)) == 0) [] (body_marks c (map (λ e. e.0) body) here) tt (all_body body in_row here row fits)))
  step (Statement-F.Each n by order body) in_row here row fits =
      all_each n by order (body_marks c (map (λ e. e.0) body)) (λ kind q. all_body body true (row_at kind (Some q)) (λ h. refl) fits) here.key
  step (Statement-F.Embed n None) in_row here row fits =
      let both : (is_template c.frame (template_at c.frame n) ≡ true) × ((is_none (kind_of c.frame (template_at c.frame n)) || in_row) ≡ true) = and_parts _ _ fits in
      (kept_job (template_at c.frame n) here.key both.0 (λ some. row (from_none (kind_of c.frame (template_at c.frame n)) in_row both.1 some)), tt)
  step (Statement-F.Embed n (Some via)) in_row here row fits =
      all_on_key here.key (via_marks c here.kind n via) (λ key.
      let to : Word = text c here.kind key (field_at c.frame here.kind via) in
      (tt, all_cond (is_key to) (mark.Hole (object_of c.frame (template_at c.frame n) (Some to)) ∷ []) [] (kept_job (template_at c.frame n) (Some to) fits (λ some. refl), tt) tt))
  step (Statement-F.Link n None body) in_row here row fits = all_link n (kind_named c.frame n) here.key (body_marks c (map (λ e. e.0) body) here) (all_body body in_row here row fits)
  step (Statement-F.Link n (Some via) body) in_row here row fits =
      all_on_key here.key (link_via c here.kind n via (body_marks c (map (λ e. e.0) body) here)) (λ key.
      let to : Word = text c here.kind key (field_at c.frame here.kind via) in (
        tt,
        all_cond (is_key to) (link c n (kind_named c.frame n) (Some to) (body_marks c (map (λ e. e.0) body) here)) (body_marks c (map (λ e. e.0) body) here)
            (all_link n (kind_named c.frame n) (Some to) (body_marks c (map (λ e. e.0) body) here) (all_body body in_row here row fits)) (all_body body in_row here row fits),
      ))

  from_step : (y : Statement-F Kid) → Fine (roll-Statement (map-Statement Kid Statement (λ e. e.0) y))
  from_step y = rw (fold-roll-Statement, fold-roll-Statement) (step y)

  statement_all : (s : Statement) → Fine s
  statement_all = ind-Statement Fine (λ x y is. subst (λ z. Fine (roll-Statement z)) is (from_step y))

  body_all : (body : List Statement) (in_row : Bool) (here : Here) → InRow in_row here → body_fits c.frame body in_row ≡ true → All (body_marks c body here)
  body_all [] in_row here row fits = tt
  body_all (s ∷ ss) in_row here row fits =
      let both : (statement_fits c.frame s in_row ≡ true) × (body_fits c.frame ss in_row ≡ true) = and_parts _ _ fits in
      all_append HoleFits (statement_marks c s here) (body_marks c ss here) (statement_all s in_row here row both.0) (body_all ss in_row here row both.1)

  module _ (fit : JobsFit c) where
    holes_fit : (o : Obj) → IsJob c.frame o → All (marks c o)
    holes_fit o job = (tt, body_all (body_at c o.template) (is_some (kind_of c.frame o.template)) (here_at c o) (λ h. job.keyed ∙ h) (fit.bodies o.template))

    holes_of : (ms : List Mark) → All ms → AllByRecursion (IsJob c.frame) (flat_map hole_of ms)
    holes_of [] all = tt
    holes_of (mark.Plain w ∷ ms) all = holes_of ms all.1
    holes_of (mark.Hole o ∷ ms) all = (all.0, holes_of ms all.1)
    holes_of (mark.Read it ∷ ms) all = holes_of ms all.1
    holes_of (mark.Goes q ∷ ms) all = holes_of ms all.1

    embeds_fit : (o : Obj) → IsJob c.frame o → AllByRecursion (IsJob c.frame) (embeds c o)
    embeds_fit o job = all_in_order obj_cmp (IsJob c.frame) (flat_map hole_of (marks c o)) (holes_of (marks c o) (holes_fit o job))

    flat_fit : (is_open : Obj → Bool) (n : ℕ) → ((o : Obj) → IsJob c.frame o → AllByRecursion (IsJob c.frame) (down c is_open n o)) → (os : List Obj) → AllByRecursion (IsJob c.frame) os →
        AllByRecursion (IsJob c.frame) (flat_map (down c is_open n) os)
    flat_fit is_open n each [] all = tt
    flat_fit is_open n each (o ∷ os) all = all_append (IsJob c.frame) (down c is_open n o) (flat_map (down c is_open n) os) (each o all.0) (flat_fit is_open n each os all.1)

    down_fit : (is_open : Obj → Bool) (n : ℕ) (o : Obj) → IsJob c.frame o → AllByRecursion (IsJob c.frame) (down c is_open n o)
    down_fit is_open zero o job = tt
    down_fit is_open (suc n) o job = elim (eqb_tells o.template n) [
      | inl e ↦ subst (AllByRecursion (IsJob c.frame)) (sym (down_at c is_open n o e.1))
          (job, by_open (is_open o) (flat_fit is_open n (down_fit is_open n) (embeds c o) (embeds_fit o job)))
      | inr e ↦ subst (AllByRecursion (IsJob c.frame)) (sym (down_past c is_open n o e.1)) (down_fit is_open n o job)
    ]
      where
        by_open : (b : Bool) → AllByRecursion (IsJob c.frame) (flat_map (down c is_open n) (embeds c o)) → AllByRecursion (IsJob c.frame) (cond b (flat_map (down c is_open n) (embeds c o)) [])
        by_open true all = all
        by_open false all = tt

    abbrev PageFits : Path × Obj → Type 0
    PageFits p = IsJob c.frame p.1

    none_some : (o : Option Word) → is_none o ≡ true → is_some o ≡ true → ⊥
    none_some None h k = true≢false (sym k)
    none_some (Some x) h k = true≢false (sym h)

    page_fit : (rule : PageRule) → page_fits c.frame rule ≡ true → AllByRecursion PageFits (pages_of c rule)
    page_fit (Fixed path template) fits =
        let both : (is_template c.frame (template_at c.frame template) ≡ true) × (is_none (kind_of c.frame (template_at c.frame template)) ≡ true) = and_parts _ _ fits in
        (kept_job (template_at c.frame template) None both.0 (λ some. absurd (none_some (kind_of c.frame (template_at c.frame template)) both.1 some)), tt)
    page_fit (Family prefix template) fits = each (keys_of c (kind_named c.frame template))
      where
        each : (ks : List Word) → AllByRecursion PageFits (map (λ key. (prefix ++ 47 ∷ key, object_of c.frame (template_at c.frame template) (Some key))) ks)
        each [] = tt
        each (k ∷ ks) = (kept_job (template_at c.frame template) (Some k) fits (λ some. refl), each ks)

    pages_fit : (rules : List PageRule) → list_all (page_fits c.frame) rules ≡ true → AllByRecursion PageFits (flat_map (pages_of c) rules)
    pages_fit [] all = tt
    pages_fit (r ∷ rs) all =
        let both : (page_fits c.frame r ≡ true) × (list_all (page_fits c.frame) rs ≡ true) = and_parts _ _ all in
        all_append PageFits (pages_of c r) (flat_map (pages_of c) rs) (page_fit r both.0) (pages_fit rs both.1)

    found_fit : (done : List Obj) (ps : List (Path × Obj)) → AllByRecursion PageFits ps → AllByRecursion (IsJob c.frame) (flat_map {X = Path × Obj} (λ p. reached_from c (is_in done) p.1) ps)
    found_fit done [] all = tt
    found_fit done (p ∷ ps) all =
        all_append (IsJob c.frame) (reached_from c (is_in done) p.1) (flat_map {X = Path × Obj} (λ p. reached_from c (is_in done) p.1) ps)
        (all_in_order obj_cmp (IsJob c.frame) (down c (is_in done) (suc p.1.template) p.1) (down_fit (is_in done) (suc p.1.template) p.1 all.0)) (found_fit done ps all.1)

    one_of : (os : List Obj) → AllByRecursion (IsJob c.frame) os → (o : Obj) → is_in os o ≡ true → IsJob c.frame o
    one_of [] all o inside = absurd (true≢false (sym inside))
    one_of (x ∷ xs) all o inside = elim (or_cases (same_obj o x) (is_in xs o) inside) [
      | inl here ↦ subst (IsJob c.frame) (sym (obj_same o x here)) all.0
      | inr later ↦ one_of xs all.1 o later
    ]

-- each page's object can be expanded
pub pages_are_jobs : (c : Content) → JobsFit c → AllByRecursion (λ (p : Path × Obj). IsJob c.frame p.1) (pages c)
pages_are_jobs c fit = all_in_order (λ p q. text_cmp p.0 q.0) (PageFits c fit) (flat_map (pages_of c) c.frame.pages) (pages_fit c fit c.frame.pages fit.pages)

pub found_are_jobs : FoundAreJobs
found_are_jobs c done o fit inside =
    one_of c fit (found c done)
    (all_in_order obj_cmp (IsJob c.frame) (flat_map (λ p. reached_from c (is_in done) p.1) (pages c)) (found_fit c fit done (pages c) (pages_are_jobs c fit)))
    o inside
