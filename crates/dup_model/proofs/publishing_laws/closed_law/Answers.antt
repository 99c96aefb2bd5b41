use Rattle.std.proofs.Common.{refl, ◌++◌}
use Rattle.dup_model.proofs.publishing_laws.closed_law.Goals as goal
use Rattle.dup_model.specs.Editions.{looks, target_looks, has}
use Rattle.dup_model.specs.Pages.{target}
use Rattle.dup_model.specs.Versions.{content}
use Rattle.dup_model.proofs.Closed.{closed_by}
use Rattle.dup_model.proofs.Sound.{sound_from_closed, closed_from_sound}
use Rattle.dup_model.proofs.Targets.{target_sound}
use Rattle.dup_model.proofs.Editions.{consistent_after, closed_after}

pub returns-clause-looks : goal.returns-clause-looks
returns-clause-looks c = λ e t s old new. (closed_from_sound e t s, λ closed. sound_from_closed e t s old new (closed_by e t s closed))

pub returns-clause-editions : goal.returns-clause-editions
returns-clause-editions c = λ site before commits e paths consistent. (
  closed_after site before commits e consistent _ refl paths,
  λ closed. consistent_after site before commits e consistent _ refl paths (target_sound (content site (before ++ commits)))
      (closed_by (looks e) (target_looks (target (content site (before ++ commits)))) (has paths) closed),
)
