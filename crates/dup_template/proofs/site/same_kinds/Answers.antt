use Rattle.std.proofs.Common.{◌≡◌, Bool, true, ◌&&◌, refl, ap, ◌∙◌}
use Rattle.std.specs.Bool.{Decides}
use Rattle.std.proofs.lemmas.Bool.{and_parts, and_from}
use Rattle.std.proofs.lemmas.Slice.Eq.{slice_eq-Decides, bytes_eq-Decides}
use Rattle.dup_template.specs.declared.site.KindPart.{KindPart}
use Rattle.dup_template.proofs.site.same_kinds.Goals as goal

both : (x y : Bool) {P Q R : Type 0} → Decides x P → Decides y Q → (P → Q → R) → (R → P × Q) → Decides (x && y) R
both x y a b join part = (
  λ h. join (a.0 (and_parts x y h).0) (b.0 (and_parts x y h).1),
  λ r. and_from x y (a.1 (part r).0) (b.1 (part r).1),
)

pub returns : goal.returns
returns c =
    slice_eq-Decides
    (λ (a : KindPart) (b : KindPart). both _ _ (bytes_eq-Decides a.name b.name) (slice_eq-Decides bytes_eq-Decides a.fields b.fields _ refl)
    (λ n f. λ i. record { name = n i; fields = f i }) (λ is. (ap (λ (k : KindPart). k.name) is, ap (λ (k : KindPart). k.fields) is)))
    _ _ _ c.eq.ensures
