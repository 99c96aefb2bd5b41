-- Lists of keys that are compared word by word.
use Rattle.std.proofs.Common.{◌≡◌, Bool, List, ap}
use Rattle.std.specs.Bool.{Decides}
use Rattle.std.specs.Cmp.Lexicographic.{pointwise}
use Rattle.std.proofs.lemmas.Slice.Eq.{bytes_eq-Decides, slice_eq-Decides}
use Rattle.dup_names.specs.Words.{Word, same}
use Rattle.dup_template.specs.declared.value.Value.TheVariants as seen

pub keys_same : (xs ys : List Word) (b : Bool) → b ≡ pointwise same xs ys → Decides b (seen.Keys xs ≡ seen.Keys ys)
keys_same xs ys b is = let d = slice_eq-Decides bytes_eq-Decides xs ys b is in (λ h. ap seen.Keys (d.0 h), λ e. d.1 (cc))
