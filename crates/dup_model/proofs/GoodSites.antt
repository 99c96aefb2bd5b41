-- A good site's templates embed earlier ones, and its objects can be expanded.
use Rattle.std.proofs.Common.{◌≡◌, ℕ, zero, suc, ◌+◌, ◌<◌, Bool, true, false, cond, not, ◌||◌, ◌&&◌, List, [], ◌∷◌, ◌++◌, map, length, take, refl, sym, ap, subst, ◌∙◌, arith}
use Rattle.std.specs.Prelude.{Option, Some, None, is_some, if◌then◌else◌, nat_lt}
use Rattle.std.specs.List.{AllByRecursion, flat_map, list_all, slice_get}
use Rattle.std.specs.Option.{option_or, option_map, unwrap_or, is_none}
use Rattle.std.proofs.lemmas.Bool.{lt-ltb, true≢false, and_from}
use Rattle.std.proofs.lemmas.Option.{none-some}
use Rattle.dup_names.specs.Words.{Word, same, place}
use Rattle.dup_template.specs.declared.refusal.SiteRefusal.TheVariants.{LaterTemplate, WrongKind}
use Rattle.dup_template.specs.declared.refusal.What.TheVariants.{Nesting, Pages}
use Rattle.dup_template.specs.declared.site.Parts.{Parts}
use Rattle.dup_template.specs.declared.site.TemplatePart.{TemplatePart}
use Rattle.dup_template.specs.declared.site.PageRule.{PageRule}
use Rattle.dup_template.specs.declared.site.PageRule.TheVariants.{Fixed, Family}
use Rattle.dup_template.specs.declared.statement.Statement.{Statement}
use Rattle.dup_template.specs.declared.statement.Statement.TheOpen.{Statement-F}
use Rattle.dup_template.specs.declared.statement.Statement.TheVariants as s
use Rattle.dup_template.specs.Good.{Fault, IsGood, unless, at_most, has, first_from, template_names, find_template, shown_by, shows_fault, page_fault, statement_fault, body_fault, field_fault, each_fault, embed_fault, link_fault, to_fault, is_current}
use Rattle.dup_template.proofs.GoodParts.{or-none, unless-none, good-parts}
use Rattle.dup_template.proofs.GoodRules.{template_rules, has_place, place_front}
use Rattle.dup_template.specs.Frame.{Frame, Head, bodies_of, frame_of, head_of, heads_of}
use Rattle.dup_template.proofs.WithBody.{heads_taken}
use Rattle.dup_model.specs.Content.{body_at}
use Rattle.dup_model.specs.Names.{template_at, kind_of}
use Rattle.dup_model.specs.Embeddings.{embedded, embedded_step}
use Rattle.dup_model.specs.Jobs.{is_template, all_fit, fits_step, statement_fits, body_fits, page_fits}
use Rattle.dup_model.specs.GoodSites.{GoodEmbedsEarlier, GoodJobsFit}
use Rattle.dup_model.proofs.EachMark.{all_append}
use Rattle.dup_model.proofs.Folds.{fold-Say, fold-Nl, fold-Field, fold-Key, fold-If, fold-Each, fold-Embed, fold-Link}
use Rattle.dup_model.proofs.SiteRules.{rule-If, rule-Each, rule-Embed, rule-Link}
use Rattle.dup_model.proofs.Induction.{ByForms, all_by_forms}

-- templates and their heads
names_long : (ts : List Head) → length (template_names ts) ≡ length ts
names_long [] = refl
names_long (t ∷ ts) = ap suc (names_long ts)

get_head : (ts : List TemplatePart) (n : ℕ) → slice_get (heads_of ts) n ≡ option_map head_of (slice_get ts n)
get_head [] n = refl
get_head (t ∷ ts) zero = refl
get_head (t ∷ ts) (suc n) = get_head ts n

get_body : (ts : List TemplatePart) (n : ℕ) → slice_get (map (λ t. t.body) ts) n ≡ option_map (λ t. t.body) (slice_get ts n)
get_body [] n = refl
get_body (t ∷ ts) zero = refl
get_body (t ∷ ts) (suc n) = get_body ts n

names_front : (ts : List Head) (n : ℕ) → template_names (take n ts) ≡ take n (template_names ts)
names_front [] zero = refl
names_front [] (suc n) = refl
names_front (t ∷ ts) zero = refl
names_front (t ∷ ts) (suc n) = ap (λ l. t.name ∷ l) (names_front ts n)

-- a template that is found stands at the place of its name
found_place : (ts : List Head) (name : Word) (u : Head) → find_template ts name ≡ Some u →
    (has name (template_names ts) ≡ true) × (slice_get ts (place name (template_names ts)) ≡ Some u)
found_place [] name u is = absurd (none-some u is)
found_place (t ∷ ts) name u is = by_test (same t.name name) (λ later. found_place ts name u later) is
  where
    by_test : (b : Bool) → (find_template ts name ≡ Some u → (has name (template_names ts) ≡ true) × (slice_get ts (place name (template_names ts)) ≡ Some u)) →
        cond b (Some t) (find_template ts name) ≡ Some u →
        ((b || has name (template_names ts)) ≡ true) × (slice_get (t ∷ ts) (if b then 0 else (1 + place name (template_names ts))) ≡ Some u)
    by_test true later is = (refl, is)
    by_test false later is =
        let rest : (has name (template_names ts) ≡ true) × (slice_get ts (place name (template_names ts)) ≡ Some u) = later is in
        let next : 1 + place name (template_names ts) ≡ suc (place name (template_names ts)) = omega arith in
        (rest.0, ap (slice_get (t ∷ ts)) next ∙ rest.1)

module _ (frame : Frame) where
  found_template : (name : Word) (u : Head) → find_template frame.templates name ≡ Some u →
      (is_template frame (template_at frame name) ≡ true) × (kind_of frame (template_at frame name) ≡ u.kind)
  found_template name u is =
      let there : (has name (template_names frame.templates) ≡ true) × (slice_get frame.templates (place name (template_names frame.templates)) ≡ Some u) =
      found_place frame.templates name u is in
      let below : place name (template_names frame.templates) < length (template_names frame.templates) = has_place name (template_names frame.templates) there.0 in (
        ap (nat_lt (place name (template_names frame.templates))) (sym (names_long frame.templates)) ∙ lt-ltb _ _ below,
        ap (λ o. unwrap_or (option_map (λ t. t.kind) o) None) there.1,
      )

  -- a template by name, with the kind that its rule allows
  module _ (earlier : List Head) (own : Word) where
    abbrev Early : List Word → Type 0
    Early names = AllByRecursion (λ name. has name (template_names earlier) ≡ true) names

    abbrev Fits : Statement → Option Word → Type 0
    Fits x kind = Early (embedded x) × (statement_fits frame x (is_some kind) ≡ true)

    abbrev Obeys : Statement → Type 0
    Obeys x = (kind : Option Word) (depth : ℕ) → statement_fault frame earlier own x kind depth ≡ None → Fits x kind

    abbrev deep : ℕ → Fault → Fault
    deep depth fault = option_or (at_most 8 Nesting depth) fault

    under : (depth : ℕ) (fault : Fault) → deep depth fault ≡ None → fault ≡ None
    under depth fault h = (or-none (at_most 8 Nesting depth) fault h).1

    in_body : (body : List Statement) → AllByRecursion Obeys body → (kind : Option Word) (depth : ℕ) → body_fault frame earlier own body kind depth ≡ None →
        Early (flat_map (λ names. names) (map embedded body)) × (all_fit (map (statement_fits frame) body) (is_some kind) ≡ true)
    in_body [] all kind depth h = (tt, refl)
    in_body (x ∷ xs) all kind depth h =
        let both : (statement_fault frame earlier own x kind depth ≡ None) × (body_fault frame earlier own xs kind depth ≡ None) = or-none (statement_fault frame earlier own x kind depth) (body_fault frame earlier own xs kind depth) h in
        let one : Fits x kind = all.0 kind depth both.0 in
        let rest : Early (flat_map (λ names. names) (map embedded xs)) × (all_fit (map (statement_fits frame) xs) (is_some kind) ≡ true) = in_body xs all.1 kind depth both.1 in (
          all_append (λ name. has name (template_names earlier) ≡ true) (embedded x) (flat_map (λ names. names) (map embedded xs)) one.0 rest.0,
          and_from (statement_fits frame x (is_some kind)) (all_fit (map (statement_fits frame) xs) (is_some kind)) one.1 rest.1,
        )

    fits-at : (x : Statement) (f : Bool → Bool) → statement_fits frame x ≡ f → (b : Bool) → f b ≡ true → statement_fits frame x b ≡ true
    fits-at x f is b h = ap (λ g. g b) is ∙ h

    -- the current kind serves the template
    serves : (kind u : Option Word) → is_current kind u ≡ true → (is_none u || is_some kind) ≡ true
    serves kind None h = refl
    serves None (Some k) h = absurd (true≢false (sym h))
    serves (Some c) (Some k) h = refl

    embed_fits : (name : Word) (via kind : Option Word) (u : Option Head) → find_template frame.templates name ≡ u → embed_fault frame earlier own kind name via u ≡ None →
        (has name (template_names earlier) ≡ true) × (fits_step frame (Statement-F.Embed name via) (is_some kind) ≡ true)
    embed_fits name via kind None is h = absurd (none-some _ (sym h))
    embed_fits name None kind (Some u) is h =
        let both : (unless (has name (template_names earlier)) (LaterTemplate name) ≡ None) × (to_fault frame own kind name None u.kind ≡ None) =
        or-none (unless (has name (template_names earlier)) (LaterTemplate name)) (to_fault frame own kind name None u.kind) h in
        let there : (is_template frame (template_at frame name) ≡ true) × (kind_of frame (template_at frame name) ≡ u.kind) = found_template name u is in
        let current : is_current kind u.kind ≡ true = unless-none (is_current kind u.kind) (WrongKind name) both.1 in (
          unless-none (has name (template_names earlier)) (LaterTemplate name) both.0,
          and_from _ _ there.0 (ap (λ k. is_none k || is_some kind) there.1 ∙ serves kind u.kind current),
        )
    embed_fits name (Some via) kind (Some u) is h =
        let both : (unless (has name (template_names earlier)) (LaterTemplate name) ≡ None) × (to_fault frame own kind name (Some via) u.kind ≡ None) =
        or-none (unless (has name (template_names earlier)) (LaterTemplate name)) (to_fault frame own kind name (Some via) u.kind) h in
        (unless-none (has name (template_names earlier)) (LaterTemplate name) both.0, (found_template name u is).0)

    each_form : ByForms Obeys
    each_form = record {
      say = λ words kind depth h. (rw (fold-Say (List Word) embedded_step words) tt, fits-at (s.Say words) _ (fold-Say (Bool → Bool) (fits_step frame) words) (is_some kind) refl);
      nl = λ kind depth h. (rw (fold-Nl (List Word) embedded_step) tt, fits-at s.Nl _ (fold-Nl (Bool → Bool) (fits_step frame)) (is_some kind) refl);
      field = λ name kind depth h. (rw (fold-Field (List Word) embedded_step name) tt, fits-at (s.Field name) _ (fold-Field (Bool → Bool) (fits_step frame) name) (is_some kind) refl);
      key = λ kind depth h. (rw (fold-Key (List Word) embedded_step) tt, fits-at s.Key _ (fold-Key (Bool → Bool) (fits_step frame)) (is_some kind) refl);
      if_field = λ name body all kind depth h.
          let fault : option_or (field_fault frame own kind name) (body_fault frame earlier own body kind (depth + 1)) ≡ None = under depth _ (sym (rule-If frame earlier own kind depth name body) ∙ h) in
          let fine : Early (flat_map (λ names. names) (map embedded body)) × (all_fit (map (statement_fits frame) body) (is_some kind) ≡ true) =
          in_body body all kind (depth + 1) (or-none (field_fault frame own kind name) (body_fault frame earlier own body kind (depth + 1)) fault).1 in
          (rw (fold-If (List Word) embedded_step name body) fine.0, fits-at (s.If name body) _ (fold-If (Bool → Bool) (fits_step frame) name body) (is_some kind) fine.1);
      each = λ name by order body all kind depth h.
          let fault : option_or (each_fault frame own kind name by order) (body_fault frame earlier own body (Some name) (depth + 1)) ≡ None = under depth _ (sym (rule-Each frame earlier own kind depth name by order body) ∙ h) in
          let fine : Early (flat_map (λ names. names) (map embedded body)) × (all_fit (map (statement_fits frame) body) true ≡ true) =
          in_body body all (Some name) (depth + 1) (or-none (each_fault frame own kind name by order) (body_fault frame earlier own body (Some name) (depth + 1)) fault).1 in
          (rw (fold-Each (List Word) embedded_step name by order body) fine.0, fits-at (s.Each name by order body) _ (fold-Each (Bool → Bool) (fits_step frame) name by order body) (is_some kind) fine.1);
      embed = λ name via kind depth h.
          let fine : (has name (template_names earlier) ≡ true) × (fits_step frame (Statement-F.Embed name via) (is_some kind) ≡ true) =
          embed_fits name via kind (find_template frame.templates name) refl (under depth _ (sym (rule-Embed frame earlier own kind depth name via) ∙ h)) in
          (rw (fold-Embed (List Word) embedded_step name via) (fine.0, tt), fits-at (s.Embed name via) _ (fold-Embed (Bool → Bool) (fits_step frame) name via) (is_some kind) fine.1);
      link = λ name via body all kind depth h.
          let fault : option_or (link_fault frame own kind name via (find_template frame.templates name)) (body_fault frame earlier own body kind (depth + 1)) ≡ None = under depth _ (sym (rule-Link frame earlier own kind depth name via body) ∙ h) in
          let fine : Early (flat_map (λ names. names) (map embedded body)) × (all_fit (map (statement_fits frame) body) (is_some kind) ≡ true) =
          in_body body all kind (depth + 1) (or-none (link_fault frame own kind name via (find_template frame.templates name)) (body_fault frame earlier own body kind (depth + 1)) fault).1 in
          (rw (fold-Link (List Word) embedded_step name via body) fine.0, fits-at (s.Link name via body) _ (fold-Link (Bool → Bool) (fits_step frame) name via body) (is_some kind) fine.1);
    }

    body_obeys : (body : List Statement) (kind : Option Word) (depth : ℕ) → body_fault frame earlier own body kind depth ≡ None →
        Early (flat_map (λ names. names) (map embedded body)) × (all_fit (map (statement_fits frame) body) (is_some kind) ≡ true)
    body_obeys body kind depth h = in_body body (all_by_forms Obeys each_form body) kind depth h

  flat_embedded : (body : List Statement) → flat_map (λ names. names) (map embedded body) ≡ flat_map embedded body
  flat_embedded [] = refl
  flat_embedded (x ∷ xs) = ap (λ rest. embedded x ++ rest) (flat_embedded xs)

  fits_body : (body : List Statement) (b : Bool) → all_fit (map (statement_fits frame) body) b ≡ body_fits frame body b
  fits_body [] b = refl
  fits_body (x ∷ xs) b = ap (λ rest. statement_fits frame x b && rest) (fits_body xs b)

module _ (site : Parts) (good : IsGood site) where
  abbrev frame : Frame
  frame = frame_of site

  -- the bodies, template by template
  early_below : (n : ℕ) (names : List Word) → AllByRecursion (λ name. has name (template_names (heads_of (take n site.templates))) ≡ true) names →
      AllByRecursion (λ name. template_at frame name < n) names
  early_below n [] all = tt
  early_below n (name ∷ names) all = (
    place_front name (template_names (heads_of site.templates)) n
        (ap (has name) (sym (names_front (heads_of site.templates) n) ∙ ap template_names (heads_taken site.templates n)) ∙ all.0),
    early_below n names all.1,
  )

  abbrev body_in : Option TemplatePart → List Statement
  body_in o = unwrap_or (option_map (λ t. t.body) o) []

  abbrev kind_in : Option TemplatePart → Option Word
  kind_in o = unwrap_or (option_map (λ t. t.kind) o) None

  template_obeys : (n : ℕ) (o : Option TemplatePart) → slice_get site.templates n ≡ o →
      AllByRecursion (λ name. template_at frame name < n) (flat_map embedded (body_in o)) × (body_fits frame (body_in o) (is_some (kind_in o)) ≡ true)
  template_obeys n None is = (tt, refl)
  template_obeys n (Some t) is =
      let fine : AllByRecursion (λ name. has name (template_names (heads_of (take n site.templates))) ≡ true) (flat_map (λ names. names) (map embedded t.body)) × (all_fit (map (statement_fits frame) t.body) (is_some t.kind) ≡ true) =
      body_obeys frame (heads_of (take n site.templates)) t.name t.body t.kind 1 (template_rules site good n t is) in (
        early_below n (flat_map embedded t.body) (subst (AllByRecursion (λ name. has name (template_names (heads_of (take n site.templates))) ≡ true)) (flat_embedded frame t.body) fine.0),
        sym (fits_body frame t.body (is_some t.kind)) ∙ fine.1,
      )

  body_is : (n : ℕ) → unwrap_or (slice_get (bodies_of site) n) [] ≡ body_in (slice_get site.templates n)
  body_is n = ap (λ o. unwrap_or o []) (get_body site.templates n)

  kind_opt : (o : Option TemplatePart) → unwrap_or (option_map (λ h. h.kind) (option_map head_of o)) None ≡ kind_in o
  kind_opt None = refl
  kind_opt (Some t) = refl

  kind_is : (n : ℕ) → kind_of frame n ≡ kind_in (slice_get site.templates n)
  kind_is n = ap (λ o. unwrap_or (option_map (λ h. h.kind) o) None) (get_head site.templates n) ∙ kind_opt (slice_get site.templates n)

  -- the pages
  page_obeys : (rule : PageRule) (o : Option Head) → find_template frame.templates (shown_by rule) ≡ o → shows_fault rule o ≡ None → page_fits frame rule ≡ true
  page_obeys rule None is h = absurd (none-some _ (sym h))
  page_obeys (Fixed path of) (Some t) is h =
      let there : (is_template frame (template_at frame of) ≡ true) × (kind_of frame (template_at frame of) ≡ t.kind) = found_template frame of t is in
      and_from _ _ there.0 (ap is_none there.1 ∙ kindless t.kind (unless-none (not (is_some t.kind)) (WrongKind of) h))
    where
      kindless : (k : Option Word) → not (is_some k) ≡ true → is_none k ≡ true
      kindless None h = refl
      kindless (Some k) h = absurd (true≢false (sym h))
  page_obeys (Family prefix of) (Some t) is h = (found_template frame of t is).0

  pages_obey : (rules earlier : List PageRule) → first_from (page_fault frame.templates) earlier rules ≡ None → list_all (page_fits frame) rules ≡ true
  pages_obey [] earlier h = refl
  pages_obey (rule ∷ rules) earlier h =
      let both : (page_fault frame.templates earlier rule ≡ None) × (first_from (page_fault frame.templates) (earlier ++ rule ∷ []) rules ≡ None) =
      or-none (page_fault frame.templates earlier rule) (first_from (page_fault frame.templates) (earlier ++ rule ∷ []) rules) h in
      and_from _ _
      (page_obeys rule (find_template frame.templates (shown_by rule)) refl (or-none (shows_fault rule (find_template frame.templates (shown_by rule))) _ both.0).0)
      (pages_obey rules (earlier ++ rule ∷ []) both.1)

pub good_embeds_earlier : GoodEmbedsEarlier
good_embeds_earlier site c good of n =
    subst (λ f. AllByRecursion (λ name. template_at f name < n) (flat_map embedded (body_at c n))) (sym of.frame)
    (subst (λ l. AllByRecursion (λ name. template_at (frame_of site) name < n) (flat_map embedded (unwrap_or (slice_get l n) []))) (sym of.bodies)
    (subst (λ body. AllByRecursion (λ name. template_at (frame_of site) name < n) (flat_map embedded body)) (sym (body_is site good n))
    (template_obeys site good n (slice_get site.templates n) refl).0))

pub good_jobs_fit : GoodJobsFit
good_jobs_fit site c good of = record {
  bodies = λ n.
      subst (λ f. body_fits f (body_at c n) (is_some (kind_of f n)) ≡ true) (sym of.frame)
      (subst (λ l. body_fits (frame_of site) (unwrap_or (slice_get l n) []) (is_some (kind_of (frame_of site) n)) ≡ true) (sym of.bodies)
      (ap (λ body. body_fits (frame_of site) body (is_some (kind_of (frame_of site) n))) (body_is site good n)
      ∙ ap (λ k. body_fits (frame_of site) (unwrap_or (option_map (λ t. t.body) (slice_get site.templates n)) []) (is_some k)) (kind_is site good n)
      ∙ (template_obeys site good n (slice_get site.templates n) refl).1));
  pages = subst (λ f. list_all (page_fits f) f.pages ≡ true) (sym of.frame) (pages_obey site good site.pages [] (or-none (at_most 256 Pages (length site.pages)) _ (good-parts site good).pages).1);
}
