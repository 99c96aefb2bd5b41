-- What the names of a site stand for: numbers of kinds, fields and templates, objects, and the paths of
-- pages.
use Rattle.std.specs.Prelude.{ℕ, List, [], map, Option, Some, None}
use Rattle.std.specs.List.{slice_get}
use Rattle.std.specs.Option.{option_map, unwrap_or}
use Rattle.dup_names.specs.Words.{Word, Path, place}
use Rattle.dup_names.specs.declared.object.Obj.{Obj}
use Rattle.dup_template.specs.Paths.{rule_of, path_by}
use Rattle.dup_template.specs.Frame.{Frame}

-- the number of a kind, a field or a template by its name: the length of the list where it isn't there
abbrev pub kind_at : Frame → Word → ℕ
kind_at frame name = place name (map (λ k. k.name) frame.kinds)

abbrev pub fields_at : Frame → ℕ → List Word
fields_at frame kind = unwrap_or (option_map (λ k. k.fields) (slice_get frame.kinds kind)) []

abbrev pub field_at : Frame → ℕ → Word → ℕ
field_at frame kind name = place name (fields_at frame kind)

abbrev pub template_at : Frame → Word → ℕ
template_at frame name = place name (map (λ t. t.name) frame.templates)

-- the kind of a template, if it has one
abbrev pub kind_of : Frame → ℕ → Option Word
kind_of frame template = unwrap_or (option_map (λ t. t.kind) (slice_get frame.templates template)) None

-- its number, of a template by name
abbrev pub kind_named : Frame → Word → Option ℕ
kind_named frame template = option_map (kind_at frame) (kind_of frame (template_at frame template))

-- a template without kind has no key
abbrev pub key_for : Option Word → Option Word → Option Word
key_for None key = None
key_for (Some kind) key = key

-- the template by itself where it has no kind, and else with this key
abbrev pub object_of : Frame → ℕ → Option Word → Obj
object_of frame template key = record { template = template; key = key_for (kind_of frame template) key }

-- the path of a template's page: without key of a fixed page, with one of a family's
abbrev pub page_path : Frame → Word → Option Word → Option Path
page_path frame template key = path_by (rule_of frame.pages template) key
