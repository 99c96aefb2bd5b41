-- The derived equality of what is read and shown is equality.
use Rattle.std.proofs.Common.{◌≡◌, ℕ, Bool, true, false, ◌&&◌, List, refl, ap, rules}
use Rattle.std.specs.Bool.{Decides}
use Rattle.std.specs.Prelude.{nat_eq}
use Rattle.std.specs.Cmp.Lexicographic.{pointwise}
use Rattle.std.proofs.lemmas.Slice.Eq.{bytes_eq-Decides, slice_eq-Decides}
use Rattle.dup_names.specs.declared.object.Obj.{Obj}
use Rattle.dup_names.specs.declared.value.Piece.{Piece}
use Rattle.dup_names.specs.declared.value.Piece.TheVariants.{Plain, Hole}
use Rattle.dup_names.specs.declared.value.Skeleton.{Skeleton}
use Rattle.dup_names.specs.declared.value.Look.{Look}
use Rattle.dup_names.specs.contracts.object.ObjPartialEq.TheImpl.{ghosts as objects}
use Rattle.dup_names.specs.contracts.value.PiecePartialEq.TheImpl.{ghosts as pieces}
use Rattle.dup_names.specs.contracts.value.SkeletonPartialEq.TheImpl.{ghosts as skeletons}
use Rattle.dup_names.specs.contracts.value.LookPartialEq.TheImpl.{ghosts as looks}

and_both : (a b : Bool) (P Q : Type 0) → Decides a P → Decides b Q → Decides (a && b) (P × Q)
and_both true b P Q d e = (λ h. (d.0 refl, e.0 h), λ pq. e.1 pq.1)
and_both false b P Q d e = (λ h. (d.0 h, e.0 (cc)), λ pq. d.1 pq.0)

object-Decides : (a b : Obj) → Decides (objects.eq a b) (a ≡ b)
object-Decides a b = search rules

piece-Decides : (a b : Piece) → Decides (pieces.eq a b) (a ≡ b)
piece-Decides (Plain x) (Plain y) = search (rules, bytes_eq-Decides)
piece-Decides (Plain x) (Hole p) = search (rules, bytes_eq-Decides)
piece-Decides (Hole o) (Plain y) = search (rules, bytes_eq-Decides)
piece-Decides (Hole o) (Hole p) = search (rules, bytes_eq-Decides)

pieces-Decides : (xs ys : List Piece) → Decides (pointwise pieces.eq xs ys) (xs ≡ ys)
pieces-Decides xs ys = slice_eq-Decides piece-Decides xs ys _ refl

texts-Decides : (xs ys : List (List ℕ)) → Decides (pointwise (pointwise nat_eq) xs ys) (xs ≡ ys)
texts-Decides xs ys = slice_eq-Decides bytes_eq-Decides xs ys _ refl

pub Skeleton-Decides : (a b : Skeleton) → Decides (skeletons.eq a b) (a ≡ b)
Skeleton-Decides a b =
    let both = and_both _ _ _ _ (pieces-Decides a.pieces b.pieces) (texts-Decides a.links b.links) in (
      λ h. let e = both.0 h in λ i. record { pieces = e.0 i; links = e.1 i },
      λ e. both.1 (ap (λ (s : Skeleton). s.pieces) e, ap (λ (s : Skeleton). s.links) e),
    )

use-Decides : (a b : Obj × List ℕ) → Decides (objects.eq a.0 b.0 && pointwise nat_eq a.1 b.1) (a ≡ b)
use-Decides a b =
    let both = and_both _ _ _ _ (object-Decides a.0 b.0) (bytes_eq-Decides a.1 b.1) in (
      λ h. let e = both.0 h in λ i. (e.0 i, e.1 i),
      λ e. both.1 (ap (λ (s : Obj × List ℕ). s.0) e, ap (λ (s : Obj × List ℕ). s.1) e),
    )

pub Look-Decides : (a b : Look) → Decides (looks.eq a b) (a ≡ b)
Look-Decides a b =
    let both = and_both _ _ _ _ (object-Decides a.obj b.obj) (and_both _ _ _ _ (bytes_eq-Decides a.bytes b.bytes)
    (and_both _ _ _ _ (slice_eq-Decides use-Decides a.uses b.uses _ refl) (texts-Decides a.links b.links))) in (
      λ h. let e = both.0 h in λ i. record { obj = e.0 i; bytes = e.1.0 i; uses = e.1.1.0 i; links = e.1.1.1 i },
      λ e. both.1 (ap (λ (s : Look). s.obj) e, (ap (λ (s : Look). s.bytes) e, (ap (λ (s : Look). s.uses) e, ap (λ (s : Look). s.links) e))),
    )
