use Rattle.std.proofs.Common.{subst, ap, ◌≡◌, List, map, ◌∙◌}
use Rattle.std.specs.Prelude.{Some}
use Rattle.std.proofs.lemmas.List.{take_all}
use Rattle.serde_json.specs.Data.{string}
use Rattle.dup_names.specs.Words.{Word}
use Rattle.dup_feed.specs.Feed.{field_of}
use Rattle.dup_feed.proofs.Again.{field_again, fields_again, fields_next}
use Rattle.dup_feed.proofs.Values.{put_next}
use Rattle.dup_feed.proofs.writing.fields_value.Goals as goal

pub loop-field-preserved : goal.loop-field-preserved
loop-field-preserved c =
    let fs = c.args.fields.now in
    let i = c.loop-field.field-index in
    let f = c.field-item.result in
    record {
      value = put_next fs i f _ _ _ _ c.loop-field-test.true c.field-item.is c.requires c.name_str-name.ensures.value
          (c.in_ok-text.ensures ∙ ap string (c.str_of.ensures ∙ c.bytes.ensures.value)) c.loop-field.invariant.value c.in_ok-put.ensures.ok;
      said = fields_next fs i f c.loop-field-test.true c.field-item.is (field_again f c.name_str-name.ensures.valid c.bytes.ensures.fits) c.loop-field.invariant.said;
    }

pub returns-clause-said : goal.returns-clause-said
returns-clause-said c =
    let fs = c.args.fields.now in
    fields_again fs (subst (λ (gs : List (Word × Word)). map (λ (g : Word × Word). field_of g.0 (string g.1)) gs ≡ map Some gs) (take_all c.loop-field.field-index fs c.loop-field-test.false) c.loop-field.invariant.said)
