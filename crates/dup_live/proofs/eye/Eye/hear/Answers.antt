use Rattle.std.proofs.Common.{List, subst}
use Rattle.dup_model.specs.Editions.{Bundle}
use Rattle.dup_cache.specs.Holding.{BeginsWith}
use Rattle.dup_live.specs.Deeds.{published}
use Rattle.dup_live.proofs.Telling.{published_grows}
use Rattle.dup_live.proofs.eye.Eye.hear.Goals as goal

pub returns-clause-told : goal.returns-clause-told
returns-clause-told g c = rw (← c.self.view_is) (published_grows c.self.inside.told.deeds c.longer.result.deeds c.longer.ensures.this)

pub returns-clause-heard : goal.returns-clause-heard
returns-clause-heard g c = subst (λ (l : List Bundle). BeginsWith (published c.longer.result.deeds) l) c.into_front-heard.ensures.deeds
    (published_grows c.into_front-heard.result.deeds c.longer.result.deeds c.longer.ensures.that)
