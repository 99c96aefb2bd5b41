-- Spelled lines, one after another.
use Rattle.std.proofs.Common.{◌≡◌, ℕ, List, [], ◌∷◌, ◌++◌, refl, ◌∙◌}
use Rattle.std.specs.Prelude.{true}
use Rattle.std.specs.List.{flat_map, list_all}
use Rattle.std.specs.Str.{is_utf8, IsUtf8}
use Rattle.std.proofs.lemmas.Bool.{and_from}
use Rattle.std.proofs.lemmas.Str.{is_utf8-from_IsUtf8}
use Rattle.std.proofs.lemmas.List.Folds.{list_all-append}
use Rattle.dup_site.specs.declared.site_line.SiteLine.{SiteLine}
use Rattle.dup_site.specs.declared.site_line.SiteLine.TheVariants as line
use Rattle.dup_site.specs.Spelling.{is_spelled, are_spelled}
use Rattle.dup_site.specs.Canonical.{enclosed}

pub utf8_is : (bs : List ℕ) → IsUtf8 bs → is_utf8 bs ≡ true
utf8_is bs h = is_utf8-from_IsUtf8 bs h

pub all_append : (xs ys : List SiteLine) → are_spelled xs → are_spelled ys → are_spelled (xs ++ ys)
all_append xs ys p q = list_all-append is_spelled xs ys ∙ and_from (list_all is_spelled xs) (list_all is_spelled ys) p q

pub one_spelled : (l : SiteLine) → is_spelled l ≡ true → are_spelled (l ∷ [])
one_spelled l h = and_from (is_spelled l) true h refl

pub enclosed_spelled : (l : SiteLine) (bodies : List (List SiteLine)) → is_spelled l ≡ true → are_spelled (flat_map (λ b. b) bodies) → are_spelled (enclosed l bodies)
enclosed_spelled l bodies p q =
    and_from (is_spelled l) (list_all is_spelled (flat_map (λ b. b) bodies ++ line.End ∷ [])) p (all_append (flat_map (λ b. b) bodies) (line.End ∷ []) q refl)
