-- Which pages have to change together, from an edition's looks e to a target's looks t. The laws above:
-- `targets_law`, `closed_law`.
use Rattle.std.specs.Prelude.{◌≡◌, Bool, false, not, ◌&&◌, ◌||◌, Option, Some, None, IsTrue, bytes_eq, if◌then◌else◌}
use Rattle.std.specs.List.{list_any}
use Rattle.std.specs.Option.{is_none, is_some, option_eq}
use Rattle.std.specs.Cmp.Lexicographic.{pointwise}
use Rattle.dup_names.specs.declared.object.Obj.{Obj}
use Rattle.dup_names.specs.declared.value.Look.{Look}
use Rattle.dup_names.specs.Words.{Word, Path}
use Rattle.dup_names.specs.Objects.{same_obj}

-- which look each path has, if any
abbrev pub Looks : Type 0
Looks = Path → Option Look

-- the same object with the same bytes
abbrev pub same_use : Obj × Word → Obj × Word → Bool
same_use a b = same_obj a.0 b.0 && bytes_eq a.1 b.1

abbrev pub same_look : Look → Look → Bool
same_look a b = same_obj a.obj b.obj && bytes_eq a.bytes b.bytes && pointwise same_use a.uses b.uses
    && pointwise bytes_eq a.links b.links

-- some object is shown by both, with different bytes
abbrev pub clash : Option Look → Option Look → Bool
clash None b = false
clash (Some a) None = false
clash (Some a) (Some b) =
    list_any (λ x. list_any (λ y. same_obj x.0 y.0 && not (bytes_eq x.1 y.1)) b.uses) a.uses

-- a page links to q
abbrev pub links : Option Look → Path → Bool
links None q = false
links (Some look) q = list_any (bytes_eq q) look.links

-- no link leads to a path with no page, and no object is shown in two ways
pub record IsSound (s : Looks) : Type 0 where
  pub leads : (p q : Path) → IsTrue (links (s p) q) → IsTrue (is_some (s q))
  pub agrees : (p q : Path) → clash (s p) (s q) ≡ false

-- to put p as t has it, or to drop it, q has to change too
abbrev pub needs : Looks → Looks → Path → Path → Bool
needs e t p q = not (bytes_eq p q)
    && (clash (t p) (e q) || links (t p) q && is_none (e q) || is_none (t p) && links (e q) p)

-- absence counts as a look
abbrev pub changed : Looks → Looks → Path → Bool
changed e t p = not (option_eq same_look (e p) (t p))

-- a set of paths, as a test
abbrev pub Paths : Type 0
Paths = Path → Bool

-- what a path of the set needs is in the set
abbrev pub IsClosed : Looks → Looks → Paths → Type 0
IsClosed e t s = (p q : Path) → IsTrue (s p) → IsTrue (needs e t p q) → IsTrue (s q)

-- what a changed path needs is changed: so it is where the target is that of a content
abbrev pub NeededAreChanged : Looks → Looks → Type 0
NeededAreChanged e t = (p q : Path) → IsTrue (changed e t p) → IsTrue (needs e t p q) → IsTrue (changed e t q)

-- the looks once these paths are published: t's there, e's elsewhere
abbrev pub mixed : Paths → Looks → Looks → Looks
mixed s e t p = if s p then t p else e p
