use Rattle.std.proofs.Common.{drop, sym, subst, ◌∙◌}
use Rattle.dup_model.specs.Logs.{IsGoodLog}
use Rattle.dup_cache.specs.Holding.{BeginsWith}
use Rattle.dup_live.specs.declared.shown.State.{State}
use Rattle.dup_live.specs.Kept.{IsOf}
use Rattle.dup_live.proofs.Keeps.{turns}
use Rattle.dup_live.proofs.LastState.{last_state-fold}
use Rattle.dup_live.proofs.outlet.shows.Goals as goal

pub publish_as-requires : goal.publish_as-requires
publish_as-requires g c next is =
    let now = c.args.writer.desk.shown.value in
    let same = is ∙ last_state-fold now (drop c.args.writer.behind c.args.writer.log.items) in
    turns g.J.Naming.book g.J.Naming.site _ _ now next
    (subst (λ (s : State). BeginsWith s.edition.log now.edition.log) (sym same) c.requires.grows)
    (λ _. subst (λ (s : State). IsOf g.J.Naming.book g.J.Naming.site s) (sym same) c.requires.of)
    (λ _. subst (λ (s : State). IsGoodLog g.J.Naming.site s.edition.log) (sym same) c.requires.good)
