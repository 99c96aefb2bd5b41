-- What holds of each mark that a statement can give holds of all marks of an object.
use Rattle.std.proofs.Common.{◌≡◌, ℕ, List, [], ◌∷◌, ◌++◌, map, length, refl, subst}
use Rattle.std.specs.Prelude.{Option, Some, None, if◌then◌else◌, ◌==◌, Bool, true, false, is_some}
use Rattle.std.specs.List.{flat_map, AllByRecursion}
use Rattle.dup_names.specs.Grammar.{is_key}
use Rattle.dup_names.specs.declared.object.Obj.{Obj}
use Rattle.dup_names.specs.declared.object.Item.{Item}
use Rattle.dup_names.specs.declared.object.Item.TheVariants as item
use Rattle.dup_template.specs.declared.statement.Statement.{Statement, roll-Statement}
use Rattle.dup_template.specs.declared.statement.Statement.TheOpen.{Statement-F}
use Rattle.dup_template.specs.declared.statement.Statement.TheFolds.{ind-Statement, fold-roll-Statement, map-Statement}
use Rattle.dup_model.specs.declared.mark.Mark.{Mark}
use Rattle.dup_model.specs.declared.mark.Mark.TheVariants as mark
use Rattle.dup_names.specs.Words.{Word, in_order}
use Rattle.dup_model.specs.Content.{Content, text, row, keys, group}
use Rattle.dup_model.specs.Names.{kind_at, field_at, template_at, object_of, page_path, kind_named}
use Rattle.dup_model.specs.Here.{Here, row_at, on_key, by_field}
use Rattle.dup_model.specs.Marks.{marks, marks_step, statement_marks, body_marks, here_at, field_marks, if_marks, via_marks}
use Rattle.dup_model.specs.Content.{body_at}
use Rattle.dup_model.specs.Turns.{bodies, turns, each_marks, group_marks}
use Rattle.dup_model.specs.Links.{link, link_via, linked_to, opening, closing}
use Rattle.dup_model.specs.Embeddings.{embedded, embedded_step}
use Rattle.dup_model.proofs.Induction.{within}

pub all_append : {A : Type 0} (P : A → Type 0) (xs ys : List A) → AllByRecursion P xs → AllByRecursion P ys → AllByRecursion P (xs ++ ys)
all_append P [] ys h k = k
all_append P (x ∷ xs) ys h k = (h.0, all_append P xs ys h.1 k)

pub all_front : {A : Type 0} (P : A → Type 0) (xs ys : List A) → AllByRecursion P (xs ++ ys) → AllByRecursion P xs
all_front P [] ys h = tt
all_front P (x ∷ xs) ys h = (h.0, all_front P xs ys h.1)

pub all_rest : {A : Type 0} (P : A → Type 0) (xs ys : List A) → AllByRecursion P (xs ++ ys) → AllByRecursion P ys
all_rest P [] ys h = h
all_rest P (x ∷ xs) ys h = all_rest P xs ys h.1

all_flat : {A B : Type 0} (P : B → Type 0) (f : A → List B) → ((x : A) → AllByRecursion P (f x)) → (xs : List A) → AllByRecursion P (flat_map f xs)
all_flat P f each [] = tt
all_flat P f each (x ∷ xs) = all_append P (f x) (flat_map f xs) (each x) (all_flat P f each xs)

all_map : {A B : Type 0} (P : B → Type 0) (f : A → B) → ((x : A) → P (f x)) → (xs : List A) → AllByRecursion P (map f xs)
all_map P f each [] = tt
all_map P f each (x ∷ xs) = (each x, all_map P f each xs)

pub record Gives (c : Content) (P : Mark → Type 0) (Allowed : Word → Type 0) : Type 0 where
  pub plain : (w : Word) → P (mark.Plain w)
  pub read : (it : Item) → P (mark.Read it)
  pub hole : (name : Word) → Allowed name → (key : Option Word) → P (mark.Hole (object_of c.frame (template_at c.frame name) key))
  pub fixed : (name path : Word) → kind_named c.frame name ≡ None → page_path c.frame name None ≡ Some path → P (mark.Goes path)
  pub in_row : (name key path : Word) (kind : ℕ) → kind_named c.frame name ≡ Some kind → is_some (row c kind key) ≡ true → page_path c.frame name (Some key) ≡ Some path → P (mark.Goes path)

module _ (c : Content) (P : Mark → Type 0) (Allowed : Word → Type 0) (gives : Gives c P Allowed) where
  abbrev All : List Mark → Type 0
  All = AllByRecursion P

  abbrev Names : List Word → Type 0
  Names = AllByRecursion Allowed

  abbrev Fine : Statement → Type 0
  Fine s = Names (embedded s) → (here : Here) → All (statement_marks c s here)

  abbrev Kid : Type 0
  Kid = (s : Statement) × Fine s

  all_body : (body : List Kid) → Names (flat_map (λ names. names) (map embedded (map (λ e. e.0) body))) → (here : Here) → All (body_marks c (map (λ e. e.0) body) here)
  all_body [] h here = tt
  all_body (e ∷ es) h here =
      all_append P (statement_marks c e.0 here) (body_marks c (map (λ e. e.0) es) here)
      (e.1 (all_front Allowed (embedded e.0) (flat_map (λ names. names) (map embedded (map (λ e. e.0) es))) h) here)
      (all_body es (all_rest Allowed (embedded e.0) (flat_map (λ names. names) (map embedded (map (λ e. e.0) es))) h) here)

  all_cond : (b : Bool) (xs ys : List Mark) → All xs → All ys → All (if b then xs else ys)
  all_cond true xs ys h k = h
  all_cond false xs ys h k = k

  all_on_key : (k : Option Word) (f : Word → List Mark) → ((key : Word) → All (f key)) → All (on_key k f)
  all_on_key None f each = tt
  all_on_key (Some key) f each = each key

  all_turns : (kind : ℕ) (order : Option Word) (f : Here → List Mark) → ((here : Here) → All (f here)) → (it : Item) (ks : List Word) → All (turns c kind order f it ks)
  all_turns kind None f each it ks = (gives.read it, all_flat P (λ q. f (row_at kind (Some q))) (λ q. each (row_at kind (Some q))) ks)
  all_turns kind (Some order) f each it ks = (
    gives.read it,
    all_append P (map (λ q. mark.Read (item.Field kind q (field_at c.frame kind order))) ks) (bodies kind f (in_order (by_field c kind (field_at c.frame kind order)) ks))
        (all_map P (λ q. mark.Read (item.Field kind q (field_at c.frame kind order))) (λ q. gives.read _) ks)
        (all_flat P (λ q. f (row_at kind (Some q))) (λ q. each (row_at kind (Some q))) (in_order (by_field c kind (field_at c.frame kind order)) ks)),
  )

  all_each : (name : Word) (by order : Option Word) (f : Here → List Mark) → ((here : Here) → All (f here)) → (key : Option Word) → All (each_marks c name by order f key)
  all_each name None order f each key = all_turns (kind_at c.frame name) order f each (item.List (kind_at c.frame name)) (keys c (kind_at c.frame name))
  all_each name (Some by) order f each key =
      all_on_key key (group_marks c name by order f) (λ k.
      let kind : ℕ = kind_at c.frame name in
      all_turns (kind_at c.frame name) order f each (item.Group (kind_at c.frame name) (field_at c.frame (kind_at c.frame name) by) k) (group c (kind_at c.frame name) (field_at c.frame (kind_at c.frame name) by) k))

  all_linked : (path : Option Word) (xs : List Mark) → ((q : Word) → path ≡ Some q → P (mark.Goes q)) → All xs → All (linked_to path xs)
  all_linked None xs goes h = h
  all_linked (Some path) xs goes h =
      all_append P (opening path) (xs ++ closing) (gives.plain _, (goes path refl, tt)) (all_append P xs closing h (gives.plain _, tt))

  all_link_at : (name : Word) (kind : Option ℕ) → kind_named c.frame name ≡ kind → (key : Option Word) (xs : List Mark) → All xs → All (link c name kind key xs)
  all_link_at name None is key xs h = all_linked (page_path c.frame name None) xs (λ q at. gives.fixed name q is at) h
  all_link_at name (Some kind) is None xs h = h
  all_link_at name (Some kind) is (Some key) xs h = (gives.read _, by_row (is_some (row c kind key)) refl)
    where
      by_row : (b : Bool) → is_some (row c kind key) ≡ b → All (linked_to (if b then page_path c.frame name (Some key) else None) xs)
      by_row true there = all_linked (page_path c.frame name (Some key)) xs (λ q at. gives.in_row name key q kind is there at) h
      by_row false there = h

  all_link : (name : Word) (key : Option Word) (xs : List Mark) → All xs → All (link c name (kind_named c.frame name) key xs)
  all_link name key xs h = all_link_at name (kind_named c.frame name) refl key xs h

  step : (y : Statement-F Kid) → Names (embedded_step (within Fine (List Word) embedded y)) → (here : Here) →
      All (marks_step c (within Fine (Here → List Mark) (statement_marks c) y) here)
  step (Statement-F.Say w) h here = (gives.plain w, tt)
  step Statement-F.Nl h here = (gives.plain _, tt)
  step (Statement-F.Field n) h here = all_on_key here.key (field_marks c here.kind n) (λ key. (gives.read _, (gives.plain _, tt)))
  step Statement-F.Key h here = all_on_key here.key (λ key. mark.Plain key ∷ []) (λ key. (gives.plain key, tt))
  step (Statement-F.If n body) h here =
      all_on_key here.key (if_marks c here.kind n (body_marks c (map (λ e. e.0) body) here)) (λ key.
      (gives.read _, all_cond (length (text c here.kind key (field_at c.frame here.kind n)) == 0) [] (body_marks c (map (λ e. e.0) body) here) tt (all_body body h here)))
  step (Statement-F.Each n by order body) h here = all_each n by order (body_marks c (map (λ e. e.0) body)) (all_body body h) here.key
  step (Statement-F.Embed n None) h here = (gives.hole n h.0 here.key, tt)
  step (Statement-F.Embed n (Some via)) h here =
      all_on_key here.key (via_marks c here.kind n via) (λ key.
      let to : Word = text c here.kind key (field_at c.frame here.kind via) in
      (gives.read _, all_cond (is_key to) (mark.Hole (object_of c.frame (template_at c.frame n) (Some to)) ∷ []) [] (gives.hole n h.0 (Some to), tt) tt))
  step (Statement-F.Link n None body) h here = all_link n here.key (body_marks c (map (λ e. e.0) body) here) (all_body body h here)
  step (Statement-F.Link n (Some via) body) h here =
      all_on_key here.key (link_via c here.kind n via (body_marks c (map (λ e. e.0) body) here)) (λ key.
      let to : Word = text c here.kind key (field_at c.frame here.kind via) in (
        gives.read _,
        all_cond (is_key to) (link c n (kind_named c.frame n) (Some to) (body_marks c (map (λ e. e.0) body) here)) (body_marks c (map (λ e. e.0) body) here)
            (all_link n (Some to) (body_marks c (map (λ e. e.0) body) here) (all_body body h here)) (all_body body h here),
      ))

  from_step : (y : Statement-F Kid) → Fine (roll-Statement (map-Statement Kid Statement (λ e. e.0) y))
  from_step y = rw (fold-roll-Statement, fold-roll-Statement) (step y)

  statement_all : (s : Statement) → Fine s
  statement_all = ind-Statement Fine (λ x y is. subst (λ z. Fine (roll-Statement z)) is (from_step y))

  body_all : (body : List Statement) → Names (flat_map embedded body) → (here : Here) → All (body_marks c body here)
  body_all [] h here = tt
  body_all (s ∷ ss) h here =
      all_append P (statement_marks c s here) (body_marks c ss here)
      (statement_all s (all_front Allowed (embedded s) (flat_map embedded ss) h) here)
      (body_all ss (all_rest Allowed (embedded s) (flat_map embedded ss) h) here)

  pub marks_all : (o : Obj) → Names (flat_map embedded (body_at c o.template)) → All (marks c o)
  marks_all o h = (gives.read (item.Template o.template), body_all (body_at c o.template) h (here_at c o))
