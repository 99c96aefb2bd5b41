-- What each kind of statement shows, by an equation each. The law above: `shows_law`.
use Rattle.std.specs.Prelude.{◌≡◌, ℕ, List, [], ◌∷◌, ◌++◌, Option, Some, None, codes, if◌then◌else◌, ◌==◌, length}
use Rattle.std.specs.List.{flat_map}
use Rattle.dup_names.specs.Grammar.{is_key}
use Rattle.dup_names.specs.Words.{Word, Path}
use Rattle.dup_names.specs.declared.object.Obj.{Obj}
use Rattle.dup_template.specs.declared.statement.Statement.{Statement}
use Rattle.dup_template.specs.declared.statement.Statement.TheVariants as s
use Rattle.dup_model.specs.Content.{Content, body_at, text, keys, group}
use Rattle.dup_model.specs.Names.{kind_at, field_at, template_at, kind_named, object_of}
use Rattle.dup_model.specs.Here.{Here, row_at, escaped}
use Rattle.dup_model.specs.Links.{target_path}
use Rattle.dup_model.specs.Turns.{rows_by}
use Rattle.dup_model.specs.Marks.{statement_marks, body_marks, here_at}
use Rattle.dup_model.specs.Show.{show, shown}
use Rattle.dup_model.specs.Embeddings.{EmbedsEarlier}

abbrev pub statement_shows : Content → Statement → Here → Word
statement_shows c statement here = flat_map (shown (show c)) (statement_marks c statement here)

abbrev pub body_shows : Content → List Statement → Here → Word
body_shows c body here = flat_map (shown (show c)) (body_marks c body here)

-- the object of a template by name, with this key where it has a kind
abbrev pub object_named : Content → Word → Option Word → Obj
object_named c template key = object_of c.frame (template_at c.frame template) key

-- a link's body: a link where the target page exists, and else the body alone
abbrev pub as_link : Option Path → Word → Word
as_link None body = body
as_link (Some path) body = codes "<a href=\"" ++ path ++ codes "\">" ++ body ++ codes "</a>"

-- the body for each of these rows of a kind
abbrev pub for_rows : Content → ℕ → List Statement → List Word → Word
for_rows c kind body ks = flat_map (λ q. body_shows c body (row_at kind (Some q))) ks

-- the table of statements; `row_at kind (Some key)` is a current row
pub record ShowsEach (c : Content) : Type 0 where
  pub object : (o : Obj) → show c o ≡ body_shows c (body_at c o.template) (here_at c o)
  pub no_statement : (here : Here) → body_shows c [] here ≡ []
  pub one_after_another : (first : Statement) (rest : List Statement) (here : Here) →
      body_shows c (first ∷ rest) here ≡ statement_shows c first here ++ body_shows c rest here
  pub say : (words : Word) (here : Here) → statement_shows c (s.Say words) here ≡ words
  pub nl : (here : Here) → statement_shows c s.Nl here ≡ 10 ∷ []
  pub field : (name key : Word) (kind : ℕ) →
      statement_shows c (s.Field name) (row_at kind (Some key)) ≡ escaped
      (text c kind key (field_at c.frame kind name))
  pub key : (key : Word) (kind : ℕ) → statement_shows c s.Key (row_at kind (Some key)) ≡ key
  pub if_field : (name key : Word) (kind : ℕ) (body : List Statement) →
      statement_shows c (s.If name body) (row_at kind (Some key))
      ≡ (if length (text c kind key (field_at c.frame kind name)) == 0 then []
      else body_shows c body (row_at kind (Some key)))
  pub each : (name : Word) (order : Option Word) (body : List Statement) (here : Here) →
      let kind = kind_at c.frame name in
      statement_shows c (s.Each name None order body) here ≡ for_rows c kind body
      (rows_by c kind order (keys c kind))
  pub each_by : (name by key : Word) (current : ℕ) (order : Option Word) (body : List Statement) →
      let kind = kind_at c.frame name in
      statement_shows c (s.Each name (Some by) order body) (row_at current (Some key))
      ≡ for_rows c kind body (rows_by c kind order (group c kind (field_at c.frame kind by) key))
  pub embed : (name : Word) (here : Here) →
      statement_shows c (s.Embed name None) here ≡ show c (object_named c name here.key)
  pub embed_via : (name via key : Word) (kind : ℕ) →
      let to = text c kind key (field_at c.frame kind via) in
      statement_shows c (s.Embed name (Some via)) (row_at kind (Some key)) ≡
      (if is_key to then show c (object_named c name (Some to)) else [])
  pub link : (name : Word) (body : List Statement) (here : Here) →
      statement_shows c (s.Link name None body) here ≡ as_link
      (target_path c name (kind_named c.frame name) here.key) (body_shows c body here)
  pub link_via : (name via key : Word) (kind : ℕ) (body : List Statement) →
      let to = text c kind key (field_at c.frame kind via) in
      statement_shows c (s.Link name (Some via) body) (row_at kind (Some key))
      ≡ as_link (if is_key to then target_path c name (kind_named c.frame name) (Some to)
      else None) (body_shows c body (row_at kind (Some key)))

abbrev pub EachIsShown : Type 0
EachIsShown = (c : Content) → EmbedsEarlier c → ShowsEach c
