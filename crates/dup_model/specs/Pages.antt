-- The pages of a content, its target, and the objects that its pages use. The law above: `targets_law`.
use Rattle.std.specs.Prelude.{ℕ, List, [], ◌∷◌, ◌++◌, map, Option, Some, None}
use Rattle.std.specs.List.{flat_map}
use Rattle.std.specs.FinMap as fin
use Rattle.dup_names.specs.Order.{text_cmp, obj_cmp}
use Rattle.dup_names.specs.declared.object.Obj.{Obj}
use Rattle.dup_names.specs.declared.value.Look.{Look}
use Rattle.dup_template.specs.declared.site.PageRule.{PageRule}
use Rattle.dup_template.specs.declared.site.PageRule.TheVariants.{Fixed, Family}
use Rattle.dup_names.specs.Words.{Word, Path, in_order}
use Rattle.dup_template.specs.declared.site.Parts.{Parts}
use Rattle.dup_model.specs.Content.{Content, keys}
use Rattle.dup_model.specs.Commits.{Commit}
use Rattle.dup_model.specs.Versions.{version}
use Rattle.dup_model.specs.Names.{kind_named, template_at, object_of}
use Rattle.dup_model.specs.Looks.{look, uses}

abbrev pub keys_of : Content → Option ℕ → List Word
keys_of c None = []
keys_of c (Some kind) = keys c kind

-- the pages of a declaration
abbrev pub pages_of : Content → PageRule → List (Path × Obj)
pages_of c (Fixed path template) = (path, object_of c.frame (template_at c.frame template) None) ∷ []
pages_of c (Family prefix template) =
    map (λ key. (
      prefix ++ 47 ∷ key,
      object_of c.frame (template_at c.frame template) (Some key),
    ))
    (keys_of c (kind_named c.frame template))

abbrev pub pages : Content → List (Path × Obj)
pages c = in_order (λ p q. text_cmp p.0 q.0) (flat_map (pages_of c) c.frame.pages)

abbrev pub Target : Type 0
Target = fin.FinMap text_cmp Look

-- the look of each page, in path order
abbrev pub page_looks : Content → List (Path × Look)
page_looks c = map (λ p. (p.0, look c p.1)) (pages c)

-- the same by path
abbrev pub target : Content → Target
target c = fin.from_entries (page_looks c)

-- the target of a version
abbrev pub target_at : Parts → List Commit → ℕ → Target
target_at site commits i = target (version site commits i)

-- the objects that pages use
abbrev pub live : Content → List Obj
live c = in_order obj_cmp (flat_map (λ p. uses c p.1) (pages c))
