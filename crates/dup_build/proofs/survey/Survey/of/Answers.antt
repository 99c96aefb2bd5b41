use Rattle.std.proofs.Common.{ap, subst, sym, ◌∙◌}
use Rattle.dup_names.specs.Objects.{is_in}
use Rattle.dup_model.specs.Touched.{without}
use Rattle.dup_sets.specs.Entries.{objs}
use Rattle.dup_machine.specs.FoundGrows.{page_objs}
use Rattle.dup_build.specs.Loose.{shown_by, AreStarts}
use Rattle.dup_build.proofs.Moving.{surveyed, waits_of}
use Rattle.dup_build.proofs.survey.Survey.of.Goals as goal

pub returns-clause-unjoined : goal.returns-clause-unjoined
returns-clause-unjoined c =
    let starts : AreStarts (page_objs c.args.content.now) c.args.looks.now c.args.stale.now c.deref-2.result.now =
    subst (AreStarts (page_objs c.args.content.now) c.args.looks.now c.args.stale.now) (sym c.deref-2.ensures.value)
    (subst (λ ps. AreStarts (shown_by ps) c.args.looks.now c.args.stale.now c.in_ok-roots.roots.items) (c.deref.ensures ∙ c.in_ok-pages.ensures) c.in_ok-roots.ensures) in
    surveyed c.args.content.now c.args.nodes.now c.args.looks.now c.args.dropped.now c.args.stale.now (without (is_in c.args.dropped.now) (objs c.args.nodes.now)) c.requires.earlier c.requires.nodes c.requires.closed
    c.new-none.result c.new-none.ensures c.deref-2.result.now starts c.in_ok-unjoined.unjoined c.len.ensures.rising c.in_ok-unjoined.ensures

pub returns-clause-waiting : goal.returns-clause-waiting
returns-clause-waiting c =
    c.in_ok-waiting.ensures
    ∙ ap (without (is_in (without (is_in c.args.dropped.now) (objs c.args.nodes.now)))) (c.deref-3.ensures.value ∙ c.in_ok-list.ensures ∙ returns-clause-unjoined c)
    ∙ waits_of c.args.content.now c.args.nodes.now c.args.looks.now c.args.dropped.now c.args.stale.now (without (is_in c.args.dropped.now) (objs c.args.nodes.now)) c.requires.earlier c.requires.nodes c.requires.closed
