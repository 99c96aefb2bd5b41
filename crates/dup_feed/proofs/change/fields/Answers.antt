use Rattle.std.proofs.Common.{◌∙◌, sym, ap, append-nil}
use Rattle.std.specs.Prelude.{Some}
use Rattle.serde_json.specs.View.{view, members_view}
use Rattle.dup_feed.specs.Feed.{field_of, fields_of}
use Rattle.dup_feed.proofs.Members.{with_front, front_more, rise_of}
use Rattle.dup_feed.proofs.change.fields.Goals as goal

pub loop-name-preserved : goal.loop-name-preserved
loop-name-preserved c = (
  tt,
  tt,
  front_more c.loop-name.fields.items c.push.new.self.items c.loop-name.name-iterator c.next.new.self c.in-Some.name.now c.in-Some.value.now c.in-Some-2.field _ c.in-Some.ensures.steps
      (ap (λ n. field_of n (view c.in-Some.value.now)) (sym c.as_str.ensures.value) ∙ sym c.in_ok-field.ensures ∙ c.in-Some-2.is)
      c.in_ok-push.ensures.items c.loop-name.invariant.2,
)

pub returns-clause-rising : goal.returns-clause-rising
returns-clause-rising c =
    rise_of c.args.members.now.entries c.loop-name.fields.items c.len.ensures.ordered
    (sym c.loop-name.invariant.2 ∙ ap (λ es. with_front c.loop-name.fields.items (fields_of (members_view es))) c.in-None.ensures.steps.0 ∙ ap Some (append-nil c.loop-name.fields.items))
