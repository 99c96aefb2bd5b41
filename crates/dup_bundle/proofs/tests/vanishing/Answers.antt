use Rattle.std.proofs.Common.{ap, ◌∙◌}
use Rattle.dup_bundle.proofs.Exact.{no_page_sound}
use Rattle.dup_bundle.proofs.tests.vanishing.Goals as goal

pub between-requires-2-clause-sound : goal.between-requires-2-clause-sound
between-requires-2-clause-sound c = no_page_sound c.of-target.result _ (ap (λ t. t.pages) c.of-target.ensures) (c.of-pages.ensures ∙ c.new.ensures.items)
