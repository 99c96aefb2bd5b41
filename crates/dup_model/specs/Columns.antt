-- What each kind of statement reads, embeds and links to, by an equation each: the other columns of the table
-- of statements. The law above: `columns_law`.
use Rattle.std.specs.Prelude.{◌≡◌, ℕ, ◌==◌, List, [], ◌∷◌, ◌++◌, map, Option, Some, None, length, if◌then◌else◌}
use Rattle.std.specs.List.{flat_map}
use Rattle.dup_names.specs.Grammar.{is_key}
use Rattle.dup_names.specs.Order.{item_cmp, obj_cmp, text_cmp}
use Rattle.dup_names.specs.Words.{Path, Word, in_order}
use Rattle.dup_names.specs.declared.object.Item.{Item}
use Rattle.dup_names.specs.declared.object.Item.TheVariants as item
use Rattle.dup_names.specs.declared.object.Obj.{Obj}
use Rattle.dup_template.specs.declared.statement.Statement.{Statement}
use Rattle.dup_template.specs.declared.statement.Statement.TheVariants as s
use Rattle.dup_model.specs.declared.mark.Mark.{Mark}
use Rattle.dup_model.specs.Content.{Content, body_at, group, keys, text}
use Rattle.dup_model.specs.Here.{Here, row_at}
use Rattle.dup_model.specs.Links.{target_path}
use Rattle.dup_model.specs.Marks.{body_marks, here_at, statement_marks}
use Rattle.dup_model.specs.Names.{field_at, kind_at, kind_named}
use Rattle.dup_model.specs.Shows.{object_named}
use Rattle.dup_model.specs.Skeletons.{embeds, goes, goes_by, hole_of, read_by, reads}
use Rattle.dup_model.specs.Turns.{rows_by}

-- what a statement, and a body, add to a column: what each of their marks adds, one after another
abbrev pub statement_adds : {A : Type 0} → (Mark → List A) → Content → Statement → Here → List A
statement_adds by_mark c statement here = flat_map by_mark (statement_marks c statement here)

abbrev pub body_adds : {A : Type 0} → (Mark → List A) → Content → List Statement → Here → List A
body_adds by_mark c body here = flat_map by_mark (body_marks c body here)

-- what a statement, and a body, read
abbrev pub statement_reads : Content → Statement → Here → List Item
statement_reads = statement_adds read_by

abbrev pub body_reads : Content → List Statement → Here → List Item
body_reads = body_adds read_by

-- to order rows by a field is to read it of each
abbrev pub order_items : Content → ℕ → Option Word → List Word → List Item
order_items c kind None ks = []
order_items c kind (Some order) ks = map (λ q. item.Field kind q (field_at c.frame kind order)) ks

-- a link reads whether the row of its target is there, where the target is a family's
abbrev pub target_items : Option ℕ → Option Word → List Item
target_items None key = []
target_items (Some kind) None = []
target_items (Some kind) (Some key) = item.Row kind key ∷ []

-- the path of a link's target, where the page exists
abbrev pub path_in : Option Path → List Path
path_in None = []
path_in (Some path) = path ∷ []

-- the column "Reads"; `row_at kind (Some key)` is a current row
pub record ReadsEach (c : Content) : Type 0 where
  pub object : (o : Obj) → reads c o ≡ in_order item_cmp
      (item.Template o.template ∷ body_reads c (body_at c o.template) (here_at c o))
  pub no_statement : (here : Here) → body_reads c [] here ≡ []
  pub one_after_another : (first : Statement) (rest : List Statement) (here : Here) →
      body_reads c (first ∷ rest) here ≡ statement_reads c first here ++ body_reads c rest here
  pub say : (words : Word) (here : Here) → statement_reads c (s.Say words) here ≡ []
  pub nl : (here : Here) → statement_reads c s.Nl here ≡ []
  pub field : (name key : Word) (kind : ℕ) →
      statement_reads c (s.Field name) (row_at kind (Some key))
      ≡ item.Field kind key (field_at c.frame kind name) ∷ []
  pub key : (key : Word) (kind : ℕ) → statement_reads c s.Key (row_at kind (Some key)) ≡ []
  pub if_field : (name key : Word) (kind : ℕ) (body : List Statement) →
      let field = field_at c.frame kind name in
      statement_reads c (s.If name body) (row_at kind (Some key)) ≡ item.Field kind key field
      ∷ (if length (text c kind key field) == 0 then [] else body_reads c body (row_at kind (Some key)))
  pub each : (name : Word) (order : Option Word) (body : List Statement) (here : Here) →
      let kind = kind_at c.frame name in
      statement_reads c (s.Each name None order body) here ≡ item.List kind
      ∷ (order_items c kind order (keys c kind)
      ++ flat_map (λ q. body_reads c body (row_at kind (Some q))) (rows_by c kind order (keys c kind)))
  pub each_by : (name by key : Word) (current : ℕ) (order : Option Word) (body : List Statement) →
      let kind = kind_at c.frame name in
      let field = field_at c.frame kind by in
      let rows = group c kind field key in
      statement_reads c (s.Each name (Some by) order body) (row_at current (Some key))
      ≡ item.Group kind field key ∷ (order_items c kind order rows
      ++ flat_map (λ q. body_reads c body (row_at kind (Some q))) (rows_by c kind order rows))
  pub embed : (name : Word) (here : Here) → statement_reads c (s.Embed name None) here ≡ []
  pub embed_via : (name via key : Word) (kind : ℕ) →
      statement_reads c (s.Embed name (Some via)) (row_at kind (Some key))
      ≡ item.Field kind key (field_at c.frame kind via) ∷ []
  pub link : (name : Word) (body : List Statement) (here : Here) →
      statement_reads c (s.Link name None body) here
      ≡ target_items (kind_named c.frame name) here.key ++ body_reads c body here
  pub link_via : (name via key : Word) (kind : ℕ) (body : List Statement) →
      let field = field_at c.frame kind via in
      let to = text c kind key field in
      statement_reads c (s.Link name (Some via) body) (row_at kind (Some key)) ≡ item.Field kind key field
      ∷ ((if is_key to then target_items (kind_named c.frame name) (Some to) else [])
      ++ body_reads c body (row_at kind (Some key)))

-- a column without what is read: an embedding adds this of its object and a link adds this of its target's
-- path, if there is one, before its body; what else a statement adds is what its body adds
pub record AddsEach {A : Type 0} (by_mark : Mark → List A) (embedding : Obj → List A)
    (linking : Option Path → List A) (c : Content) : Type 0 where
  pub no_statement : (here : Here) → body_adds by_mark c [] here ≡ []
  pub one_after_another : (first : Statement) (rest : List Statement) (here : Here) →
      body_adds by_mark c (first ∷ rest) here
      ≡ statement_adds by_mark c first here ++ body_adds by_mark c rest here
  pub say : (words : Word) (here : Here) → statement_adds by_mark c (s.Say words) here ≡ []
  pub nl : (here : Here) → statement_adds by_mark c s.Nl here ≡ []
  pub field : (name key : Word) (kind : ℕ) →
      statement_adds by_mark c (s.Field name) (row_at kind (Some key)) ≡ []
  pub key : (key : Word) (kind : ℕ) → statement_adds by_mark c s.Key (row_at kind (Some key)) ≡ []
  pub if_field : (name key : Word) (kind : ℕ) (body : List Statement) →
      statement_adds by_mark c (s.If name body) (row_at kind (Some key))
      ≡ (if length (text c kind key (field_at c.frame kind name)) == 0 then []
      else body_adds by_mark c body (row_at kind (Some key)))
  pub each : (name : Word) (order : Option Word) (body : List Statement) (here : Here) →
      let kind = kind_at c.frame name in
      statement_adds by_mark c (s.Each name None order body) here
      ≡ flat_map (λ q. body_adds by_mark c body (row_at kind (Some q))) (rows_by c kind order (keys c kind))
  pub each_by : (name by key : Word) (current : ℕ) (order : Option Word) (body : List Statement) →
      let kind = kind_at c.frame name in
      let rows = group c kind (field_at c.frame kind by) key in
      statement_adds by_mark c (s.Each name (Some by) order body) (row_at current (Some key))
      ≡ flat_map (λ q. body_adds by_mark c body (row_at kind (Some q))) (rows_by c kind order rows)
  pub embed : (name : Word) (here : Here) →
      statement_adds by_mark c (s.Embed name None) here ≡ embedding (object_named c name here.key)
  pub embed_via : (name via key : Word) (kind : ℕ) →
      let to = text c kind key (field_at c.frame kind via) in
      statement_adds by_mark c (s.Embed name (Some via)) (row_at kind (Some key))
      ≡ (if is_key to then embedding (object_named c name (Some to)) else [])
  pub link : (name : Word) (body : List Statement) (here : Here) →
      statement_adds by_mark c (s.Link name None body) here
      ≡ linking (target_path c name (kind_named c.frame name) here.key) ++ body_adds by_mark c body here
  pub link_via : (name via key : Word) (kind : ℕ) (body : List Statement) →
      let to = text c kind key (field_at c.frame kind via) in
      statement_adds by_mark c (s.Link name (Some via) body) (row_at kind (Some key))
      ≡ (if is_key to then linking (target_path c name (kind_named c.frame name) (Some to)) else [])
      ++ body_adds by_mark c body (row_at kind (Some key))

-- which objects each kind of statement embeds
pub record EmbedsEach (c : Content) : Type 0 where
  pub object : (o : Obj) →
      embeds c o ≡ in_order obj_cmp (body_adds hole_of c (body_at c o.template) (here_at c o))
  pub statements : AddsEach hole_of (λ o. o ∷ []) (λ path. []) c

-- where the links of each kind of statement go
pub record GoesEach (c : Content) : Type 0 where
  pub object : (o : Obj) →
      goes c o ≡ in_order text_cmp (body_adds goes_by c (body_at c o.template) (here_at c o))
  pub statements : AddsEach goes_by (λ o. []) path_in c

abbrev pub EachReads : Type 0
EachReads = (c : Content) → ReadsEach c

abbrev pub EachEmbeds : Type 0
EachEmbeds = (c : Content) → EmbedsEach c

abbrev pub EachGoes : Type 0
EachGoes = (c : Content) → GoesEach c
