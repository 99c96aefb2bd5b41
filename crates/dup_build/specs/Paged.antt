-- Which items the pages of a content hang on.
use Rattle.std.specs.Prelude.{ℕ, Bool, false, Option, Some, None, nat_eq}
use Rattle.std.specs.List.{list_any}
use Rattle.dup_names.specs.declared.object.Item.{Item}
use Rattle.dup_names.specs.declared.object.Item.TheVariants as item
use Rattle.dup_template.specs.Frame.{Frame}
use Rattle.dup_template.specs.declared.site.PageRule.{PageRule}
use Rattle.dup_template.specs.declared.site.PageRule.TheVariants.{Fixed, Family}
use Rattle.dup_model.specs.Names.{kind_named}

-- a kind is this one
abbrev pub is_kind : ℕ → Option ℕ → Bool
is_kind kind None = false
is_kind kind (Some k) = nat_eq k kind

-- a declaration has a page for each row of a kind
abbrev pub is_family_of : Frame → ℕ → PageRule → Bool
is_family_of frame kind (Fixed path template) = false
is_family_of frame kind (Family prefix template) = is_kind kind (kind_named frame template)

-- the keys of a kind whose rows have pages
abbrev pub lists_pages : Frame → Item → Bool
lists_pages frame (item.List kind) = list_any (is_family_of frame kind) frame.pages
lists_pages frame _ = false
