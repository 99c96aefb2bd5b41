-- What the statements of one object give, in order, up to each embedding. The law above: `shows_law`.
use Rattle.std.specs.Prelude.{ℕ, List, [], ◌∷◌, map, Option, Some, None, if◌then◌else◌, ◌==◌, length}
use Rattle.dup_names.specs.Grammar.{is_key}
use Rattle.dup_names.specs.declared.object.Item.TheVariants as item
use Rattle.dup_names.specs.declared.object.Obj.{Obj}
use Rattle.dup_template.specs.Frame.{Frame}
use Rattle.dup_template.specs.declared.statement.Statement.{Statement, fold-Statement}
use Rattle.dup_template.specs.declared.statement.Statement.TheOpen.{Statement-F}
use Rattle.dup_model.specs.declared.mark.Mark.{Mark}
use Rattle.dup_model.specs.declared.mark.Mark.TheVariants as mark
use Rattle.dup_names.specs.Words.{Word}
use Rattle.dup_model.specs.Content.{Content, text, body_at}
use Rattle.dup_model.specs.Names.{kind_at, field_at, template_at, kind_of, kind_named, object_of}
use Rattle.dup_model.specs.Here.{Here, on_key, escaped, each_of}
use Rattle.dup_model.specs.Links.{link, link_via}
use Rattle.dup_model.specs.Turns.{each_marks}

abbrev pub field_marks : Content → ℕ → Word → Word → List Mark
field_marks c kind name key =
    let field = field_at c.frame kind name in
    mark.Read (item.Field kind key field) ∷ (mark.Plain (escaped (text c kind key field)) ∷ [])

abbrev pub if_marks : Content → ℕ → Word → List Mark → Word → List Mark
if_marks c kind name body key =
    let field = field_at c.frame kind name in
    mark.Read (item.Field kind key field) ∷ (if length (text c kind key field) == 0 then [] else body)

abbrev pub via_marks : Content → ℕ → Word → Word → Word → List Mark
via_marks c kind name via key =
    let field = field_at c.frame kind via in
    let to = text c kind key field in
    mark.Read (item.Field kind key field)
    ∷ (if is_key to then mark.Hole (object_of c.frame (template_at c.frame name) (Some to)) ∷ [] else [])

-- one statement, with those of its body already read
abbrev pub marks_step : Content → Statement-F (Here → List Mark) → Here → List Mark
marks_step c (Statement-F.Say words) here = mark.Plain words ∷ []
marks_step c Statement-F.Nl here = mark.Plain (10 ∷ []) ∷ []
marks_step c (Statement-F.Field name) here = on_key here.key (field_marks c here.kind name)
marks_step c Statement-F.Key here = on_key here.key (λ key. mark.Plain key ∷ [])
marks_step c (Statement-F.If name body) here = on_key here.key (if_marks c here.kind name (each_of body here))
marks_step c (Statement-F.Each name by order body) here = each_marks c name by order (each_of body) here.key
marks_step c (Statement-F.Embed name None) here =
    mark.Hole (object_of c.frame (template_at c.frame name) here.key) ∷ []
marks_step c (Statement-F.Embed name (Some via)) here = on_key here.key (via_marks c here.kind name via)
marks_step c (Statement-F.Link name None body) here =
    link c name (kind_named c.frame name) here.key (each_of body here)
marks_step c (Statement-F.Link name (Some via) body) here =
    on_key here.key (link_via c here.kind name via (each_of body here))

abbrev pub statement_marks : Content → Statement → Here → List Mark
statement_marks c = fold-Statement (Here → List Mark) (marks_step c)

abbrev pub body_marks : Content → List Statement → Here → List Mark
body_marks c body = each_of (map (statement_marks c) body)

-- the kind of an object's current row
abbrev pub kind_from : Frame → Option Word → ℕ
kind_from site None = 0
kind_from site (Some name) = kind_at site name

abbrev pub here_at : Content → Obj → Here
here_at c o = record { kind = kind_from c.frame (kind_of c.frame o.template); key = o.key }

-- the marks of an object: its template is read, and then its statements' marks follow
abbrev pub marks : Content → Obj → List Mark
marks c o = mark.Read (item.Template o.template) ∷ body_marks c (body_at c o.template) (here_at c o)
