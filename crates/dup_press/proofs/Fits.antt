-- What holds of a press stays so with each step.
use Rattle.std.proofs.Common.{◌≡◌, ℕ, List, [], sym, ap, subst, ◌∙◌}
use Rattle.std.proofs.lemmas.Option.{none-some}
use Rattle.std.specs.Ordering.{nat_cmp}
use Rattle.std.specs.FinMap as fin
use Rattle.dup_names.specs.Words.{Path}
use Rattle.dup_template.specs.declared.site.Parts.{Parts}
use Rattle.dup_model.specs.Editions.{Bundle}
use Rattle.dup_model.specs.Journal.{Limits}
use Rattle.dup_model.specs.Logs.{IsGoodLog}
use Rattle.dup_machine.specs.Press.{press_of}
use Rattle.dup_machine.specs.Presses.{Press}
use Rattle.dup_machine.specs.Run.{step}
use Rattle.dup_machine.specs.Timely.{IsTimely}
use Rattle.dup_machine.specs.World.{Event, World}
use Rattle.dup_machine.proofs.Machine.{IsFit, fit_step}
use Rattle.dup_bundle.specs.Between.{changed_paths}
use Rattle.dup_bundle.specs.Schedule.{IsSchedule}
use Rattle.dup_bundle.specs.Targets.{Aim}
use Rattle.dup_press.specs.Press.{AdmitsGood, IsPress, aim, logged}
use Rattle.dup_press.specs.Worked.{Worked}
use Rattle.dup_press.specs.Worked as worked

-- a world with this press alone
abbrev pub world_of : Press → World
world_of p = record { commits = p.commits; target = p.target; work = p.work; log = p.log; nodes = fin.empty; slots = fin.empty; replies = [] }

-- an event leaves the log good and the press timely
pub stays_fit : (site : Parts) (limits : Limits) (p : Press) (ev : Event) → IsGoodLog site p.log → IsTimely site p →
    IsGoodLog site (press_of (step site limits (world_of p) ev)).log × IsTimely site (press_of (step site limits (world_of p) ev))
stays_fit site limits p ev good timely =
    let fit : IsFit site limits (world_of p) = record { good = good; timely = timely; caches = λ number cache is. absurd (none-some cache (sym (fin.get-empty nat_cmp number) ∙ is)) } in
    let next = (fit_step site limits (world_of p) fit ev).0 in
    (next.good, next.timely)

-- works that stand at the same site and target leave what is published
pub keeps_press : (admits : List Bundle → Type 0) (old new : Worked) (log : List Bundle) (n : ℕ) (changed : List Path) (bundles : List (List Path)) →
    IsPress admits old log n changed bundles → new.journal.site ≡ old.journal.site → aim new ≡ aim old → IsTimely new.journal.site (worked.press_of log new) →
    IsPress admits new log n changed bundles
keeps_press admits old new log n changed bundles is site same timely = record {
  changed = is.changed ∙ ap (λ (t : Aim). changed_paths (logged old log) t) (sym same);
  bundles = subst (λ (t : Aim). IsSchedule (logged new log) t bundles) (sym same)
      (subst (λ (s : Parts). IsSchedule (record { site = s; log = log }) (aim old) bundles) (sym site) is.bundles);
  published = is.published;
  good = subst (λ (s : Parts). IsGoodLog s log) (sym site) is.good;
  timely = timely;
  admits = subst (λ (s : Parts). AdmitsGood s admits) (sym site) is.admits;
}
