-- What the derived comparisons of items and paths say.
use Rattle.std.proofs.Common.{◌≡◌, rules}
use Rattle.std.specs.Bool.{Decides}
use Rattle.std.specs.FinMap as fin
use Rattle.std.specs.declared.cmp.Ordering.TheVariants.{Equal}
use Rattle.std.proofs.lemmas.Slice.Eq.{bytes_eq-Decides}
use Rattle.dup_names.specs.Order.{item_cmp, text_cmp}
use Rattle.dup_names.specs.Words.{Path}
use Rattle.dup_names.specs.declared.object.Item.{Item}
use Rattle.dup_names.specs.contracts.object.ItemOrd.TheImpl.{ghosts as items}
use Rattle.dup_names.specs.contracts.object.ItemPartialEq.TheImpl.{ghosts as same_items}
use Rattle.dup_names.specs.contracts.path.PathOrd.TheImpl.{ghosts as paths}
use Rattle.dup_names.specs.contracts.path.PathPartialEq.TheImpl.{ghosts as same_paths}

item_cmp_at : (a b : Item) → items.cmp a b ≡ item_cmp a b
item_cmp_at a b = search rules

pub item_cmp_is : items.cmp ≡ item_cmp
item_cmp_is i a b = item_cmp_at a b i

pub same_item_decides : (a b : Item) → Decides (same_items.eq a b) (a ≡ b)
same_item_decides a b = search (rules, bytes_eq-Decides)

path_cmp_at : (a b : Path) → paths.cmp a b ≡ text_cmp a b
path_cmp_at a b = search rules

pub path_cmp_is : paths.cmp ≡ text_cmp
path_cmp_is i a b = path_cmp_at a b i

pub path_tied : (a b : Path) → text_cmp a b ≡ Equal → a ≡ b
path_tied a b is = fin.slice_cmp-IsAntisymmetric fin.nat_cmp-IsAntisymmetric a b is

pub same_path_decides : (a b : Path) → Decides (same_paths.eq a b) (a ≡ b)
same_path_decides a b = search (rules, bytes_eq-Decides)
