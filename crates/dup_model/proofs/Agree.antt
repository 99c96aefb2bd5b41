-- An object's marks depend on no more of a content than on the items that they read.
use Rattle.std.proofs.Common.{◌≡◌, ℕ, List, [], ◌∷◌, ◌++◌, map, length, refl, ap, ap₂, sym, subst, ◌∙◌}
use Rattle.std.specs.Prelude.{Option, Some, None, if◌then◌else◌, ◌==◌, Bool, true, false, is_some}
use Rattle.dup_names.specs.Grammar.{is_key}
use Rattle.dup_names.specs.declared.object.Obj.{Obj}
use Rattle.dup_names.specs.declared.object.Item.{Item}
use Rattle.dup_names.specs.declared.object.Item.TheVariants as item
use Rattle.dup_template.specs.Frame.{Frame}
use Rattle.dup_template.specs.declared.statement.Statement.{Statement, roll-Statement}
use Rattle.dup_template.specs.declared.statement.Statement.TheOpen.{Statement-F}
use Rattle.dup_template.specs.declared.statement.Statement.TheFolds.{ind-Statement, fold-roll-Statement, map-Statement}
use Rattle.dup_model.specs.declared.mark.Mark.{Mark}
use Rattle.dup_model.specs.declared.mark.Mark.TheVariants as mark
use Rattle.dup_template.specs.declared.value.Value.{Value}
use Rattle.dup_template.specs.declared.value.Value.TheVariants as seen
use Rattle.dup_names.specs.Words.{Word, put, put_at, in_order}
use Rattle.std.specs.Ordering.{nat_cmp, ordering_then}
use Rattle.std.specs.declared.cmp.Ordering.{Ordering}
use Rattle.std.specs.declared.cmp.Ordering.TheVariants.{Less, Equal, Greater}
use Rattle.dup_names.specs.Order.{text_cmp}
use Rattle.dup_model.specs.Content.{Content, Table, value, text, row}
use Rattle.dup_model.specs.Here.{Here, row_at, on_key, escaped, by_field}
use Rattle.dup_model.specs.Marks.{marks, marks_step, statement_marks, body_marks, here_at, field_marks, if_marks, via_marks}
use Rattle.dup_model.specs.Content.{body_at}
use Rattle.dup_model.specs.Turns.{bodies, rows_by, order_reads, turns, each_marks, group_marks}
use Rattle.dup_model.specs.Links.{link, link_via, linked_to, opening, closing}
use Rattle.dup_model.specs.Names.{field_at, object_of, template_at, kind_at, page_path, kind_named}
use Rattle.dup_model.proofs.Induction.{within}

-- the turns behind the item that is read for them
abbrev ordered_turns : Content → ℕ → Option Word → (Here → List Mark) → List Word → List Mark
ordered_turns c kind order body ks = order_reads c kind order ks ++ bodies kind body (rows_by c kind order ks)

-- what an item is here and there
abbrev pub IsSame : Content → Content → Mark → Type 0
IsSame c d (mark.Read it) = value c it ≡ value d it
IsSame c d _ = Unit {0}

abbrev pub AreSame : Content → Content → List Mark → Type 0
AreSame c d [] = Unit {0}
AreSame c d (m ∷ ms) = IsSame c d m × AreSame c d ms

pub AreSame-front : (c d : Content) (xs ys : List Mark) → AreSame c d (xs ++ ys) → AreSame c d xs
AreSame-front c d [] ys h = tt
AreSame-front c d (x ∷ xs) ys h = (h.0, AreSame-front c d xs ys h.1)

pub AreSame-rest : (c d : Content) (xs ys : List Mark) → AreSame c d (xs ++ ys) → AreSame c d ys
AreSame-rest c d [] ys h = h
AreSame-rest c d (x ∷ xs) ys h = AreSame-rest c d xs ys h.1

abbrev keys_in : Value → List Word
keys_in (seen.Keys ks) = ks
keys_in _ = []

abbrev exists_in : Value → Bool
exists_in (seen.Exists b) = b
exists_in _ = false

-- the order of two rows by their texts
abbrev by_texts : Word → Word → Word → Word → Ordering
by_texts a b p q = ordering_then (nat_cmp (length a) (length b)) (ordering_then (text_cmp a b) (text_cmp p q))

abbrev word_in : Value → Word
word_in (seen.Text w) = w
word_in _ = []

abbrev body_in : Value → List Statement
body_in (seen.Body body) = body
body_in _ = []

module _ (site : Frame) (bodies_before bodies_after : List (List Statement)) (old new : List Table) where
  abbrev c : Content
  c = record { frame = site; bodies = bodies_before; tables = old }

  abbrev d : Content
  d = record { frame = site; bodies = bodies_after; tables = new }

  abbrev Agrees : Statement → Type 0
  Agrees s = (here : Here) → AreSame c d (statement_marks c s here) → statement_marks c s here ≡ statement_marks d s here

  abbrev Kid : Type 0
  Kid = (s : Statement) × Agrees s

  body-same : (body : List Kid) (here : Here) → let kids = map (λ e. e.0) body in
      AreSame c d (body_marks c kids here) → body_marks c kids here ≡ body_marks d kids here
  body-same [] here h = refl
  body-same (e ∷ es) here h =
      ap₂ (λ x y. x ++ y)
      (e.1 here (AreSame-front c d (statement_marks c e.0 here) (body_marks c (map (λ e. e.0) es) here) h))
      (body-same es here (AreSame-rest c d (statement_marks c e.0 here) (body_marks c (map (λ e. e.0) es) here) h))

  on_key-same : (k : Option Word) (f g : Word → List Mark) → ((key : Word) → AreSame c d (f key) → f key ≡ g key) →
      AreSame c d (on_key k f) → on_key k f ≡ on_key k g
  on_key-same None f g each h = refl
  on_key-same (Some key) f g each h = each key h

  unless-same : (b : Bool) (xs ys : List Mark) → (AreSame c d xs → xs ≡ ys) →
      AreSame c d (if b then [] else xs) → (if b then [] else xs) ≡ (if b then [] else ys)
  unless-same true xs ys same h = refl
  unless-same false xs ys same h = same h

  field-same : (kind : ℕ) (n key : Word) → AreSame c d (field_marks c kind n key) → field_marks c kind n key ≡ field_marks d kind n key
  field-same kind n key h =
      let field = field_at site kind n in
      ap (λ w. mark.Read (item.Field kind key field) ∷ (mark.Plain (escaped w) ∷ [])) (ap word_in h.0)

  if-same : (kind : ℕ) (n : Word) (xs ys : List Mark) → (AreSame c d xs → xs ≡ ys) → (key : Word) →
      AreSame c d (if_marks c kind n xs key) → if_marks c kind n xs key ≡ if_marks d kind n ys key
  if-same kind n xs ys same key h =
      let field = field_at site kind n in
      let first : Mark = mark.Read (item.Field kind key field) in
      ap (λ ms. first ∷ ms) (unless-same (length (text c kind key field) == 0) xs ys same h.1) ∙
      ap (λ w. first ∷ (if length w == 0 then [] else ys)) (ap word_in h.0)

  embed-same : (kind : ℕ) (n via key : Word) → AreSame c d (via_marks c kind n via key) → via_marks c kind n via key ≡ via_marks d kind n via key
  embed-same kind n via key h =
      let field = field_at site kind via in
      ap (λ w. mark.Read (item.Field kind key field) ∷ (if is_key w then mark.Hole (object_of site (template_at site n) (Some w)) ∷ [] else [])) (ap word_in h.0)

  bodies-same : (kind : ℕ) (f g : Here → List Mark) → ((here : Here) → AreSame c d (f here) → f here ≡ g here) → (ks : List Word) →
      AreSame c d (bodies kind f ks) → bodies kind f ks ≡ bodies kind g ks
  bodies-same kind f g each [] h = refl
  bodies-same kind f g each (q ∷ qs) h =
      ap₂ (λ x y. x ++ y)
      (each (row_at kind (Some q)) (AreSame-front c d (f (row_at kind (Some q))) (bodies kind f qs) h))
      (bodies-same kind f g each qs (AreSame-rest c d (f (row_at kind (Some q))) (bodies kind f qs) h))

  -- the texts by which rows are ordered, and the order that they give
  abbrev Alike : ℕ → ℕ → List Word → Type 0
  Alike kind field [] = Unit {0}
  Alike kind field (q ∷ qs) = (text c kind q field ≡ text d kind q field) × Alike kind field qs

  alike-read : (kind field : ℕ) (ks : List Word) → AreSame c d (map (λ q. mark.Read (item.Field kind q field)) ks) → Alike kind field ks
  alike-read kind field [] h = tt
  alike-read kind field (q ∷ qs) h = (ap word_in h.0, alike-read kind field qs h.1)

  alike-put_at : (kind field : ℕ) (r : Ordering) (x y : Word) (ys rest : List Word) →
      Alike kind field (x ∷ y ∷ ys) → Alike kind field rest → Alike kind field (put_at r x y ys rest)
  alike-put_at kind field Less x y ys rest h k = h
  alike-put_at kind field Equal x y ys rest h k = h.1
  alike-put_at kind field Greater x y ys rest h k = (h.1.0, k)

  alike-put : (kind field : ℕ) (cmp : Word → Word → Ordering) (x : Word) (ys : List Word) → Alike kind field (x ∷ ys) → Alike kind field (put cmp x ys)
  alike-put kind field cmp x [] h = h
  alike-put kind field cmp x (y ∷ ys) h =
      alike-put_at kind field (cmp x y) x y ys (put cmp x ys) h (alike-put kind field cmp x ys (h.0, h.1.1))

  alike-in_order : (kind field : ℕ) (cmp : Word → Word → Ordering) (ks : List Word) → Alike kind field ks → Alike kind field (in_order cmp ks)
  alike-in_order kind field cmp [] h = tt
  alike-in_order kind field cmp (q ∷ qs) h = alike-put kind field cmp q (in_order cmp qs) (h.0, alike-in_order kind field cmp qs h.1)

  put-same : (kind field : ℕ) (x : Word) (ys : List Word) → Alike kind field (x ∷ ys) → put (by_field c kind field) x ys ≡ put (by_field d kind field) x ys
  put-same kind field x [] h = refl
  put-same kind field x (y ∷ ys) h =
      ap₂ (λ v w. put_at (by_texts v w x y) x y ys (put (by_field c kind field) x ys)) h.0 h.1.0 ∙
      ap (λ rest. put_at (by_field d kind field x y) x y ys rest) (put-same kind field x ys (h.0, h.1.1))

  order-same : (kind field : ℕ) (ks : List Word) → Alike kind field ks → in_order (by_field c kind field) ks ≡ in_order (by_field d kind field) ks
  order-same kind field [] h = refl
  order-same kind field (q ∷ qs) h =
      put-same kind field q (in_order (by_field c kind field) qs) (h.0, alike-in_order kind field (by_field c kind field) qs h.1) ∙
      ap (put (by_field d kind field) q) (order-same kind field qs h.1)

  ordered-same : (kind : ℕ) (order : Option Word) (f g : Here → List Mark) → ((here : Here) → AreSame c d (f here) → f here ≡ g here) → (ks : List Word) →
      AreSame c d (ordered_turns c kind order f ks) → ordered_turns c kind order f ks ≡ ordered_turns d kind order g ks
  ordered-same kind None f g each ks h = bodies-same kind f g each ks h
  ordered-same kind (Some order) f g each ks h =
      let field = field_at site kind order in
      let reads = map (λ q. mark.Read (item.Field kind q field)) ks in
      let sorted = in_order (by_field c kind field) ks in
      let alike = alike-read kind field ks (AreSame-front c d reads (bodies kind f sorted) h) in
      ap (λ ms. reads ++ ms)
      (bodies-same kind f g each sorted (AreSame-rest c d reads (bodies kind f sorted) h) ∙ ap (bodies kind g) (order-same kind field ks alike))

  turns-same : (kind : ℕ) (order : Option Word) (f g : Here → List Mark) → ((here : Here) → AreSame c d (f here) → f here ≡ g here) →
      (it : Item) (ks qs : List Word) → value c it ≡ seen.Keys ks → value d it ≡ seen.Keys qs →
      AreSame c d (turns c kind order f it ks) → turns c kind order f it ks ≡ turns d kind order g it qs
  turns-same kind order f g each it ks qs there here h =
      ap (λ ms. mark.Read it ∷ ms) (ordered-same kind order f g each ks h.1) ∙
      ap (λ v. mark.Read it ∷ ordered_turns d kind order g (keys_in v)) (sym there ∙ h.0 ∙ here)

  each-same : (n : Word) (by order : Option Word) (f g : Here → List Mark) → ((here : Here) → AreSame c d (f here) → f here ≡ g here) → (key : Option Word) →
      AreSame c d (each_marks c n by order f key) → each_marks c n by order f key ≡ each_marks d n by order g key
  each-same n None order f g each key h =
      turns-same (kind_at site n) order f g each (item.List (kind_at site n)) _ _ refl refl h
  each-same n (Some by) order f g each key h =
      on_key-same key (group_marks c n by order f) (group_marks d n by order g)
      (λ k. turns-same (kind_at site n) order f g each (item.Group (kind_at site n) (field_at site (kind_at site n) by) k) _ _ refl refl) h

  linked-same : (path : Option Word) (xs ys : List Mark) → (AreSame c d xs → xs ≡ ys) → AreSame c d (linked_to path xs) → linked_to path xs ≡ linked_to path ys
  linked-same None xs ys same h = same h
  linked-same (Some path) xs ys same h = ap (λ ms. opening path ++ ms ++ closing) (same (AreSame-front c d xs closing h.1.1))

  link-same : (n : Word) (kind : Option ℕ) (key : Option Word) (xs ys : List Mark) → (AreSame c d xs → xs ≡ ys) →
      AreSame c d (link c n kind key xs) → link c n kind key xs ≡ link d n kind key ys
  link-same n None key xs ys same h = linked-same (page_path site n None) xs ys same h
  link-same n (Some kind) None xs ys same h = same h
  link-same n (Some kind) (Some key) xs ys same h =
      let first : Mark = mark.Read (item.Row kind key) in
      ap (λ ms. first ∷ ms) (linked-same (if is_some (row c kind key) then page_path site n (Some key) else None) xs ys same h.1) ∙
      ap (λ b. first ∷ linked_to (if b then page_path site n (Some key) else None) ys) (ap exists_in h.0)

  choice-same : (b : Bool) (xs ys us vs : List Mark) → (AreSame c d xs → xs ≡ ys) → (AreSame c d us → us ≡ vs) →
      AreSame c d (if b then xs else us) → (if b then xs else us) ≡ (if b then ys else vs)
  choice-same true xs ys us vs p q h = p h
  choice-same false xs ys us vs p q h = q h

  link_via-same : (kind : ℕ) (n via : Word) (xs ys : List Mark) → (AreSame c d xs → xs ≡ ys) → (key : Word) →
      AreSame c d (link_via c kind n via xs key) → link_via c kind n via xs key ≡ link_via d kind n via ys key
  link_via-same kind n via xs ys same key h =
      let field = field_at site kind via in
      let to = text c kind key field in
      let first : Mark = mark.Read (item.Field kind key field) in
      ap (λ ms. first ∷ ms)
      (choice-same (is_key to) (link c n (kind_named site n) (Some to) xs) (link d n (kind_named site n) (Some to) ys) xs ys
      (link-same n (kind_named site n) (Some to) xs ys same) same h.1) ∙
      ap (λ w. first ∷ (if is_key w then link d n (kind_named site n) (Some w) ys else ys)) (ap word_in h.0)

  abbrev below : Content → Statement-F Kid → Statement-F (Here → List Mark)
  below e = within Agrees (Here → List Mark) (statement_marks e)

  step-same : (y : Statement-F Kid) (here : Here) → AreSame c d (marks_step c (below c y) here) → marks_step c (below c y) here ≡ marks_step d (below d y) here
  step-same (Statement-F.Say w) here h = refl
  step-same Statement-F.Nl here h = refl
  step-same (Statement-F.Field n) here h = on_key-same here.key (field_marks c here.kind n) (field_marks d here.kind n) (field-same here.kind n) h
  step-same Statement-F.Key here h = refl
  step-same (Statement-F.If n body) here h =
      let kids = map (λ e. e.0) body in
      on_key-same here.key (if_marks c here.kind n (body_marks c kids here)) (if_marks d here.kind n (body_marks d kids here))
      (if-same here.kind n (body_marks c kids here) (body_marks d kids here) (body-same body here)) h
  step-same (Statement-F.Each n by order body) here h =
      let kids = map (λ e. e.0) body in
      each-same n by order (body_marks c kids) (body_marks d kids) (body-same body) here.key h
  step-same (Statement-F.Embed n None) here h = refl
  step-same (Statement-F.Embed n (Some via)) here h =
      on_key-same here.key (via_marks c here.kind n via) (via_marks d here.kind n via) (embed-same here.kind n via) h
  step-same (Statement-F.Link n None body) here h =
      let kids = map (λ e. e.0) body in
      link-same n (kind_named site n) here.key (body_marks c kids here) (body_marks d kids here) (body-same body here) h
  step-same (Statement-F.Link n (Some via) body) here h =
      let kids = map (λ e. e.0) body in
      let xs = body_marks c kids here in
      let ys = body_marks d kids here in
      on_key-same here.key (link_via c here.kind n via xs) (link_via d here.kind n via ys) (link_via-same here.kind n via xs ys (body-same body here)) h

  from_step : (y : Statement-F Kid) → Agrees (roll-Statement (map-Statement Kid Statement (λ e. e.0) y))
  from_step y here = rw (fold-roll-Statement, fold-roll-Statement) (step-same y here)

  pub statement-same : (s : Statement) → Agrees s
  statement-same = ind-Statement Agrees (λ x y is. subst (λ z. Agrees (roll-Statement z)) is (from_step y))

  pub body_marks-same : (body : List Statement) (here : Here) → AreSame c d (body_marks c body here) → body_marks c body here ≡ body_marks d body here
  body_marks-same [] here h = refl
  body_marks-same (s ∷ ss) here h =
      ap₂ (λ x y. x ++ y)
      (statement-same s here (AreSame-front c d (statement_marks c s here) (body_marks c ss here) h))
      (body_marks-same ss here (AreSame-rest c d (statement_marks c s here) (body_marks c ss here) h))

  pub marks-same : (o : Obj) → AreSame c d (marks c o) → marks c o ≡ marks d o
  marks-same o h =
      ap (λ ms. mark.Read (item.Template o.template) ∷ ms)
      (body_marks-same (body_at c o.template) (here_at c o) h.1 ∙ ap (λ body. body_marks d body (here_at d o)) (ap body_in h.0))
