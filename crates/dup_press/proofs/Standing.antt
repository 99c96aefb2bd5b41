-- The status of a press.
use Rattle.std.proofs.Common.{◌≡◌, ℕ, Bool, not, ◌||◌, Option, Some, None, length, refl, sym, ap}
use Rattle.std.specs.Prelude.{is_some}
use Rattle.std.specs.Option.{option_map}
use Rattle.dup_model.specs.Bundles.{bundle}
use Rattle.dup_model.specs.Editions.{edition}
use Rattle.dup_template.specs.declared.site.Parts.{Parts}
use Rattle.dup_machine.specs.Press.{press_of}
use Rattle.dup_machine.specs.Presses.{Press, target_by}
use Rattle.dup_machine.specs.Status.{is_of, status}
use Rattle.dup_machine.specs.World.{Work, World}
use Rattle.dup_press.proofs.Fits.{world_of}

-- it is that of any world with this press
pub status_there : (site : Parts) (p : Press) (w : World) → press_of w ≡ p → status site w ≡ status site (world_of p)
status_there site p w is = ap (λ (x : Press). status site (world_of x)) is

pub status_from : (site : Parts) (p : Press) (version : ℕ) (work target : Option ℕ) (number : ℕ) (calm : Bool) → version ≡ length p.commits → work ≡ option_map (λ work. work.version) p.work →
    target ≡ p.target → number ≡ length p.log → not calm ≡ is_some (bundle (edition p.log) (target_by site p.commits p.target)) →
    status site (world_of p) ≡ record { version = version; work = work; target = target; edition = number; pending = is_some p.work || not (is_of version target) || not calm }
status_from site p version work target number calm version_is work_is target_is number_is left =
    λ i. record {
      version = sym version_is i;
      work = sym work_is i;
      target = sym target_is i;
      edition = sym number_is i;
      pending = is_some p.work || not (is_of (sym version_is i) (sym target_is i)) || sym left i;
    }

pub mapped : (o : Option Work) → is_some (option_map (λ work. work.version) o) ≡ is_some o
mapped None = refl
mapped (Some work) = refl
