-- The current row, escaped texts, and the order of rows.
use Rattle.std.specs.Prelude.{ℕ, List, [], ◌∷◌, Option, Some, None, codes, if◌then◌else◌, ◌==◌, length}
use Rattle.std.specs.List.{flat_map}
use Rattle.std.specs.Ordering.{nat_cmp, ordering_then}
use Rattle.std.specs.declared.cmp.Ordering.{Ordering}
use Rattle.dup_names.specs.Order.{text_cmp}
use Rattle.dup_model.specs.declared.mark.Mark.{Mark}
use Rattle.dup_names.specs.Words.{Word}
use Rattle.dup_model.specs.Content.{Content, text}

-- the current row, if there is one
pub record Here : Type 0 where
  pub kind : ℕ
  pub key : Option Word

abbrev pub row_at : ℕ → Option Word → Here
row_at kind key = record { kind = kind; key = key }

abbrev pub on_key : Option Word → (Word → List Mark) → List Mark
on_key None f = []
on_key (Some key) f = f key

-- & < > " ' by their references
abbrev pub escaped_byte : ℕ → Word
escaped_byte b =
    if b == 38 then codes "&amp;" else
    (if b == 60 then codes "&lt;" else
    (if b == 62 then codes "&gt;" else
    (if b == 34 then codes "&quot;" else
    (if b == 39 then codes "&#39;" else b ∷ []))))

abbrev pub escaped : Word → Word
escaped = flat_map escaped_byte

-- `order`: by the length of the field, its bytes and the key
abbrev pub by_field : Content → ℕ → ℕ → Word → Word → Ordering
by_field c kind field p q =
    let a = text c kind p field in
    let b = text c kind q field in
    ordering_then (nat_cmp (length a) (length b)) (ordering_then (text_cmp a b) (text_cmp p q))

-- the statements of a body, one after another
abbrev pub each_of : List (Here → List Mark) → Here → List Mark
each_of bodies here = flat_map (λ f. f here) bodies
