-- What `begin` and `put` come to in the world, by the test that decides.
use Rattle.std.proofs.Common.{◌≡◌, ℕ, Bool, true, false, cond, List, Option, Some, None, length, refl}
use Rattle.std.specs.Prelude.{◌==◌}
use Rattle.dup_names.specs.declared.object.Item.{Item}
use Rattle.dup_names.specs.declared.object.Obj.{Obj}
use Rattle.dup_template.specs.declared.value.Value.{Value}
use Rattle.dup_template.specs.declared.site.Parts.{Parts}
use Rattle.dup_model.specs.Expansions.{stale}
use Rattle.dup_model.specs.Found.{waiting}
use Rattle.dup_names.specs.Objects.{is_in}
use Rattle.dup_model.specs.Versions.{content}
use Rattle.dup_machine.specs.Builds.{Build, kept_by, opened_at}
use Rattle.dup_machine.specs.Press.{at, begun, kept, opened, press_of, put_back, replied}
use Rattle.dup_machine.specs.Presses.{begins, build_at, puts}
use Rattle.dup_machine.specs.Works.{moved, work_from}
use Rattle.dup_machine.specs.World.{Begun, Told, Work, World, told}
use Rattle.dup_machine.specs.World.Begun.{Nothing, Same}
use Rattle.dup_machine.specs.World.Told.{Begins, Unasked}

begins_if : (b : Bool) (r s : Begun × Build) (w : World) →
    replied (begins (cond b r s) (press_of w)) w ≡ cond b (replied (begins r (press_of w)) w) (replied (begins s (press_of w)) w)
begins_if true r s w = refl
begins_if false r s w = refl

puts_if : (b : Bool) (r s : Told × Build) (w : World) →
    replied (puts (cond b r s) (press_of w)) w ≡ cond b (replied (puts r (press_of w)) w) (replied (puts s (press_of w)) w)
puts_if true r s w = refl
puts_if false r s w = refl

module _ (site : Parts) where
  -- over an open work
  pub begun_open : (work : Work) (target : Option ℕ) (w : World) →
      begun site (Some work) target w ≡ cond (work.version == length w.commits) (told (Begins (Same work.version)) w)
      (opened site (moved (at site w work.version) (length w.commits) (content site w.commits) work) w)
  begun_open work target w =
      let b : Build = build_at site work.version (press_of w) in
      begins_if (work.version == length w.commits) (Same work.version, b)
      (opened_at (length w.commits) (content site w.commits) (moved (at site w work.version) (length w.commits) (content site w.commits) work) b) w

  -- over a target
  pub begun_next : (a : ℕ) (w : World) →
      begun site None (Some a) w ≡ cond (a == length w.commits) (told (Begins (Nothing a)) w)
      (opened site (work_from (at site w a) (length w.commits) (content site w.commits)) w)
  begun_next a w =
      let b : Build = build_at site a (press_of w) in
      begins_if (a == length w.commits) (Nothing a, b)
      (opened_at (length w.commits) (content site w.commits) (work_from (at site w a) (length w.commits) (content site w.commits)) b) w

  -- over an open work
  pub put_asked : (o : Obj) (ns : List (Item × Value)) (work : Work) (w : World) →
      put_back site o ns (Some work) w ≡ cond (is_in (waiting (at site w work.version) work.done) o)
      (kept (at site w work.version) o work (stale (at site w work.version) ns) w) (told (Unasked o) w)
  put_asked o ns work w =
      let b : Build = build_at site work.version (press_of w) in
      puts_if (is_in (waiting (at site w work.version) work.done) o)
      (kept_by o work (stale (at site w work.version) ns) b) (Unasked o, b) w
