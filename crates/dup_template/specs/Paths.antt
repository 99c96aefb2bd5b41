-- The path of an object's page, and the object of a path.
use Rattle.std.specs.Prelude.{◌≡◌, true, ◌&&◌, List, [], ◌∷◌, ◌++◌, Option, Some, None, nat_eq, if◌then◌else◌}
use Rattle.std.specs.List.{find, slice_get}
use Rattle.std.specs.Option.{option_or, option_map}
use Rattle.dup_names.specs.Grammar.{is_key}
use Rattle.dup_names.specs.declared.object.Obj.{Obj}
use Rattle.dup_template.specs.declared.site.Parts.{Parts}
use Rattle.dup_template.specs.declared.site.TemplatePart.{TemplatePart}
use Rattle.dup_template.specs.declared.site.PageRule.{PageRule}
use Rattle.dup_template.specs.declared.site.PageRule.TheVariants.{Fixed, Family}
use Rattle.dup_names.specs.Words.{Word, same, place}
use Rattle.dup_template.specs.Frame.{heads_of}
use Rattle.dup_template.specs.Good.{shown_by, behind, template_names}

-- the declaration of a template, by its name
abbrev pub rule_of : List PageRule → Word → Option PageRule
rule_of rules name = find (λ r. same (shown_by r) name) rules

-- a fixed page without key, a family's page with one
abbrev pub path_by : Option PageRule → Option Word → Option Word
path_by None key = None
path_by (Some (Fixed path of)) None = Some path
path_by (Some (Fixed path of)) (Some key) = None
path_by (Some (Family prefix of)) None = None
path_by (Some (Family prefix of)) (Some key) = Some (prefix ++ 47 ∷ key)

-- the path of a template's page
abbrev pub path_in : Parts → Option TemplatePart → Option Word → Option Word
path_in site None key = None
path_in site (Some t) key = path_by (rule_of site.pages t.name) key

-- the path of an object's page
abbrev pub path_at : Parts → Obj → Option Word
path_at site o = path_in site (slice_get site.templates o.template) o.key

-- behind a prefix: `/` and a key
abbrev pub keyed : Word → Option Word → Option (Word × Option Word)
keyed of None = None
keyed of (Some []) = None
keyed of (Some (b ∷ key)) = if nat_eq b 47 && is_key key then Some (of, Some key) else None

-- the template and the key, where the declaration is the path's
abbrev pub shown_at : Word → PageRule → Option (Word × Option Word)
shown_at path (Fixed p of) = if same p path then Some (of, None) else None
shown_at path (Family prefix of) = keyed of (behind prefix path)

-- of the first declaration that is the path's
abbrev pub first_shown : Word → List PageRule → Option (Word × Option Word)
first_shown path [] = None
first_shown path (r ∷ rs) = option_or (shown_at path r) (first_shown path rs)

-- the object whose page is at the path
abbrev pub obj_at : Parts → Word → Option Obj
obj_at site path =
    option_map (λ s. record { template = place s.0 (template_names (heads_of site.templates)); key = s.1 })
    (first_shown path site.pages)

-- a key, where there is one, is in its grammar
abbrev pub KeyOk : Option Word → Type 0
KeyOk None = Unit {0}
KeyOk (Some k) = is_key k ≡ true
