use Rattle.std.proofs.Common.{◌≡◌, ◌<◌, length, refl, subst, List}
use Rattle.std.specs.Prelude.{Some}
use Rattle.std.specs.List.{slice_get}
use Rattle.std.proofs.lemmas.Option.{slice_get_read}
use Rattle.dup_template.specs.declared.site.KindPart.{KindPart}
use Rattle.dup_template.proofs.GoodRules.{fields_within}
use Rattle.dup_template.proofs.site.Site.fields.Goals as goal

pub returns-in-Some-clause-within : goal.returns-in-Some-clause-within
returns-in-Some-clause-within c =
    let looked = c.in-Some.ensures.lookup in
    let within : c.from.result < length c.items.result.now = looked.3.0 in
    let found : slice_get c.items.result.now c.from.result ≡ Some c.in-Some.part.now =
    slice_get_read c.items.result.now _ c.from.result c.in-Some.part.now refl within looked.1 in
    rw c.items-in-Some.ensures (fields_within c.self.inside.parts c.self.invariant c.from.result c.in-Some.part.now
    (subst (λ (ks : List KindPart). slice_get ks c.from.result ≡ Some c.in-Some.part.now) c.items.ensures found))
