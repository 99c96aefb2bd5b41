-- An `each` goes over its rows.
use Rattle.std.proofs.Common.{◌≡◌, List, [], refl, ap, ◌∙◌}
use Rattle.std.specs.Prelude.{Option, Some, None}
use Rattle.dup_names.specs.Words.{Word}
use Rattle.dup_model.specs.declared.mark.Mark.{Mark}
use Rattle.dup_model.specs.Content.{Content}
use Rattle.dup_model.specs.Here.{Here}
use Rattle.dup_model.specs.Turns.{each_marks, turns}
use Rattle.dup_render.specs.declared.rows.Rows.{Rows}
use Rattle.dup_render.specs.Rows.{item_of, keys_of, kind_of, rows_of}

abbrev turns_over : Content → Option Word → (Here → List Mark) → Option Rows → List Mark
turns_over c order body None = []
turns_over c order body (Some rows) = turns c (kind_of rows) order body (item_of rows) (keys_of c rows)

module _ (c : Content) (name : Word) (by key order : Option Word) (body : Here → List Mark) where
  each_over : each_marks c name by order body key ≡ turns_over c order body (rows_of c name by key)
  each_over = by_cases by key
    where
      by_cases : (by key : Option Word) → each_marks c name by order body key ≡ turns_over c order body (rows_of c name by key)
      by_cases None key = refl
      by_cases (Some by) None = refl
      by_cases (Some by) (Some key) = refl

  pub each_turns : (rows : Rows) → rows_of c name by key ≡ Some rows → each_marks c name by order body key ≡ turns c (kind_of rows) order body (item_of rows) (keys_of c rows)
  each_turns rows is = each_over ∙ ap (turns_over c order body) is
