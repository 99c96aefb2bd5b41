use Rattle.std.proofs.Common.{◌≡◌, ◌++◌, sym, ap, subst, ◌∙◌}
use Rattle.std.specs.List.{filter}
use Rattle.dup_names.specs.Objects.{is_in}
use Rattle.dup_build.specs.Loose.{shown_by, AreStarts}
use Rattle.dup_build.proofs.Starting.{all_start, some_start}
use Rattle.dup_build.proofs.survey.starts.Goals as goal

pub returns-then-not-same : goal.returns-then-not-same
returns-then-not-same c =
    subst (AreStarts (shown_by c.args.pages.now) c.args.looks.now c.args.stale.now) (sym (c.in_ok-all.ensures ∙ ap shown_by c.items.ensures))
    (all_start (shown_by c.args.pages.now) c.args.looks.now c.args.stale.now)

pub returns : goal.returns
returns c =
    let among : c.deref-2.result.now ≡ c.args.stale.now ++ c.args.last.now.unjoined =
    c.deref-2.ensures.value ∙ c.in_ok-extend_from_slice.ensures.items ∙ (λ i. c.in_ok-among.ensures i ++ (c.deref.ensures.value ∙ c.in_ok-list.ensures) i) in
    subst (AreStarts (shown_by c.args.pages.now) c.args.looks.now c.args.stale.now) (sym (c.in_ok-shown.ensures ∙ ap (filter (is_in (shown_by c.args.pages.now))) among))
    (some_start (shown_by c.args.pages.now) c.args.looks.now c.args.stale.now c.args.last.now.unjoined (c.requires c.if-not-same.false))
