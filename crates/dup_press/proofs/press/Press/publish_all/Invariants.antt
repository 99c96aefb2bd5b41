use Rattle.std.proofs.Common.{length}
use Rattle.dup_bundle.specs.Between.{changed_paths}
use Rattle.dup_press.specs.Press.{aim, logged}
use Rattle.dup_press.proofs.Looping.{IsPublishing}
use Rattle.dup_press.proofs.press.Press.publish_all.Given as goal

abbrev pub invariant-loop : goal.invariant-loop
invariant-loop g l = IsPublishing l.initial.self l.self

abbrev pub decreases-loop : goal.decreases-loop
decreases-loop g l = length (changed_paths (logged l.self.works l.self.log) (aim l.self.works))
