-- What links give. The law above: `shows_law`.
use Rattle.std.specs.Prelude.{ℕ, List, [], ◌∷◌, ◌++◌, Option, Some, None, is_some, codes, if◌then◌else◌}
use Rattle.dup_names.specs.Grammar.{is_key}
use Rattle.dup_names.specs.declared.object.Item.TheVariants as item
use Rattle.dup_model.specs.declared.mark.Mark.{Mark}
use Rattle.dup_model.specs.declared.mark.Mark.TheVariants as mark
use Rattle.dup_names.specs.Words.{Word, Path}
use Rattle.dup_model.specs.Content.{Content, text, row}
use Rattle.dup_model.specs.Names.{field_at, kind_named, page_path}

-- the mark before a link's body
abbrev pub opening : Word → List Mark
opening path = mark.Plain (codes "<a href=\"" ++ path ++ codes "\">") ∷ (mark.Goes path ∷ [])

abbrev pub closing : List Mark
closing = mark.Plain (codes "</a>") ∷ []

abbrev pub linked_to : Option Word → List Mark → List Mark
linked_to None body = body
linked_to (Some path) body = opening path ++ body ++ closing

-- the path of the page of a template, of this kind if it has one, where the page exists: a fixed page always
-- does, a family's where its row does
abbrev pub target_path : Content → Word → Option ℕ → Option Word → Option Path
target_path c template None key = page_path c.frame template None
target_path c template (Some kind) None = None
target_path c template (Some kind) (Some key) =
    if is_some (row c kind key) then page_path c.frame template (Some key) else None

abbrev pub target_read : Option ℕ → Option Word → List Mark
target_read None key = []
target_read (Some kind) None = []
target_read (Some kind) (Some key) = mark.Read (item.Row kind key) ∷ []

-- a link to the page of a template, with the kind of the template and the key
abbrev pub link : Content → Word → Option ℕ → Option Word → List Mark → List Mark
link c template kind key body = target_read kind key ++ linked_to (target_path c template kind key) body

-- a link by a field of the current row
abbrev pub link_via : Content → ℕ → Word → Word → List Mark → Word → List Mark
link_via c kind name via body key =
    let field = field_at c.frame kind via in
    let to = text c kind key field in
    mark.Read (item.Field kind key field)
    ∷ (if is_key to then link c name (kind_named c.frame name) (Some to) body else body)
