-- Which objects can be expanded, and what of a good site makes all found objects so. The law above:
-- `jobs_law`.
use Rattle.std.specs.Prelude.{◌≡◌, ℕ, Bool, true, ◌&&◌, ◌||◌, List, [], ◌∷◌, Some, None, IsTrue, is_some, nat_lt, length}
use Rattle.std.specs.List.{list_all}
use Rattle.std.specs.Option.{is_none}
use Rattle.dup_names.specs.declared.object.Obj.{Obj}
use Rattle.dup_template.specs.Frame.{Frame}
use Rattle.dup_template.specs.declared.site.PageRule.{PageRule}
use Rattle.dup_template.specs.declared.site.PageRule.TheVariants.{Fixed, Family}
use Rattle.dup_template.specs.declared.statement.Statement.{Statement, fold-Statement}
use Rattle.dup_template.specs.declared.statement.Statement.TheOpen.{Statement-F}
use Rattle.dup_model.specs.Content.{Content, body_at}
use Rattle.dup_model.specs.Names.{kind_of, template_at}
use Rattle.dup_names.specs.Objects.{is_in}
use Rattle.dup_model.specs.Found.{found}

abbrev pub is_template : Frame → ℕ → Bool
is_template frame n = nat_lt n (length frame.templates)

-- the template exists, and there is a key exactly where it has a kind
pub record IsJob (frame : Frame) (o : Obj) : Type 0 where
  pub exists : IsTrue (is_template frame o.template)
  pub keyed : is_some o.key ≡ is_some (kind_of frame o.template)

abbrev pub all_fit : List (Bool → Bool) → Bool → Bool
all_fit tests in_row = list_all (λ test. test in_row) tests

-- what a statement embeds is there, and needs no row where there is none
abbrev pub fits_step : Frame → Statement-F (Bool → Bool) → Bool → Bool
fits_step frame (Statement-F.If name body) in_row = all_fit body in_row
fits_step frame (Statement-F.Each name by order body) in_row = all_fit body true
fits_step frame (Statement-F.Embed name None) in_row =
    is_template frame (template_at frame name) && (is_none (kind_of frame (template_at frame name)) || in_row)
fits_step frame (Statement-F.Embed name (Some via)) in_row = is_template frame (template_at frame name)
fits_step frame (Statement-F.Link name via body) in_row = all_fit body in_row
fits_step frame _ in_row = true

abbrev pub statement_fits : Frame → Statement → Bool → Bool
statement_fits frame = fold-Statement (Bool → Bool) (fits_step frame)

abbrev pub body_fits : Frame → List Statement → Bool → Bool
body_fits frame [] in_row = true
body_fits frame (s ∷ ss) in_row = statement_fits frame s in_row && body_fits frame ss in_row

-- a page's template is there, and that of a fixed page has no kind
abbrev pub page_fits : Frame → PageRule → Bool
page_fits frame (Fixed path template) =
    is_template frame (template_at frame template) && is_none (kind_of frame (template_at frame template))
page_fits frame (Family prefix template) = is_template frame (template_at frame template)

pub record JobsFit (c : Content) : Type 0 where
  pub bodies : (n : ℕ) → IsTrue (body_fits c.frame (body_at c n) (is_some (kind_of c.frame n)))
  pub pages : IsTrue (list_all (page_fits c.frame) c.frame.pages)

-- whatever a work has done, what it finds can be expanded
abbrev pub FoundAreJobs : Type 0
FoundAreJobs = (c : Content) (done : List Obj) (o : Obj) → JobsFit c → IsTrue (is_in (found c done) o) →
    IsJob c.frame o
