-- The frame of a site: its kinds, the heads of its templates and its page declarations, without the
-- templates' bodies.
use Rattle.std.specs.Prelude.{ℕ, zero, suc, List, [], ◌∷◌, map, Option}
use Rattle.dup_names.specs.Words.{Word}
use Rattle.dup_template.specs.declared.site.Parts.{Parts}
use Rattle.dup_template.specs.declared.site.TemplatePart.{TemplatePart}
use Rattle.dup_template.specs.declared.site.KindPart.{KindPart}
use Rattle.dup_template.specs.declared.site.PageRule.{PageRule}
use Rattle.dup_template.specs.declared.statement.Statement.{Statement}

-- a template without its body
pub record Head : Type 0 where
  pub name : Word
  pub kind : Option Word

pub record Frame : Type 0 where
  pub kinds : List KindPart
  pub templates : List Head
  pub pages : List PageRule

abbrev pub head_of : TemplatePart → Head
head_of t = record { name = t.name; kind = t.kind }

abbrev pub heads_of : List TemplatePart → List Head
heads_of ts = map head_of ts

abbrev pub frame_of : Parts → Frame
frame_of site = record { kinds = site.kinds; templates = heads_of site.templates; pages = site.pages }

-- the statements of each template
abbrev pub bodies_of : Parts → List (List Statement)
bodies_of site = map (λ t. t.body) site.templates

-- the templates with this body in place of that of the one with this number
abbrev pub set_body : List TemplatePart → ℕ → List Statement → List TemplatePart
set_body [] template body = []
set_body (t ∷ ts) zero body = record t { body = body } ∷ ts
set_body (t ∷ ts) (suc template) body = t ∷ set_body ts template body

abbrev pub with_body : Parts → ℕ → List Statement → Parts
with_body site template body = record site { templates = set_body site.templates template body }
