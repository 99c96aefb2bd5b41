-- What is published next, and that the press keeps its facts once it is.
use Rattle.std.proofs.Common.{◌≡◌, ℕ, ◌+◌, ◌≤◌, Bool, true, false, List, [], ◌∷◌, ◌++◌, Option, Some, None, length, take, drop, refl, sym, ap, subst, ◌∙◌, arith}
use Rattle.std.specs.Prelude.{◌↔◌, cond, is_some, not, IsTrue}
use Rattle.std.proofs.lemmas.Bool.{true≢false}
use Rattle.std.specs.List.{filter}
use Rattle.std.proofs.lemmas.List.{length-append, length-take-le}
use Rattle.std.specs.FinMap as fin
use Rattle.std.specs.FinMap.Entries.{is_sorted}
use Rattle.dup_names.specs.Order.{text_cmp}
use Rattle.dup_names.specs.Words.{Path}
use Rattle.dup_names.specs.declared.value.Look.{Look}
use Rattle.dup_template.specs.declared.site.Parts.{Parts}
use Rattle.dup_model.specs.Bundles as definition
use Rattle.dup_model.specs.Bundles.{bundle_from, paths_of}
use Rattle.dup_model.specs.Commits.{Commit}
use Rattle.dup_model.specs.Editions.{Bundle, Edition, bundle_of, edition, history, looks, target_looks}
use Rattle.dup_model.specs.Journal.{Limits}
use Rattle.dup_model.specs.Logs.{IsGoodLog}
use Rattle.dup_model.specs.Needs.{changed, needs}
use Rattle.dup_model.specs.Pages.{Target as Pages}
use Rattle.dup_model.proofs.BundleFacts.{bundle_none}
use Rattle.dup_model.proofs.Lists.{after_front}
use Rattle.dup_model.proofs.Push.{history_snoc}
use Rattle.dup_machine.specs.Presses.{Press, publish_by, publish_step}
use Rattle.dup_machine.specs.Timely.{IsTimely}
use Rattle.dup_machine.specs.World.{Told}
use Rattle.dup_machine.specs.World.Event.{Publish}
use Rattle.dup_machine.specs.World.Told.{NothingChanged, Published}
use Rattle.dup_edition.specs.Logged.{appended}
use Rattle.dup_build.specs.Targets.{looks_of}
use Rattle.dup_bundle.specs.Between.{bundle, changed_paths}
use Rattle.dup_bundle.specs.Schedule.{IsSchedule}
use Rattle.dup_bundle.specs.Targets.{aim_of}
use Rattle.dup_bundle.proofs.Exact.{nothing_changed}
use Rattle.dup_render.specs.declared.target.Target.{Target}
use Rattle.dup_press.specs.Press.{IsPress, aim, aim_at, logged}
use Rattle.dup_press.specs.Worked.{Worked, pages_at, press_of}
use Rattle.dup_press.proofs.Aims.{sorted_entries}
use Rattle.dup_press.proofs.Fits.{stays_fit}

any_limits : Limits
any_limits = record { rows = 0; commits = 0; bytes = 0 }

filter_none : (f : Path → Bool) → ((p : Path) → f p ≡ false) → (ps : List Path) → filter f ps ≡ []
filter_none f none [] = refl
filter_none f none (p ∷ ps) = ap (λ (b : Bool). cond b (p ∷ filter f ps) (filter f ps)) (none p) ∙ filter_none f none ps

-- there is a bundle exactly where something is changed
pub no_bundle : (e : Edition) (t : Pages) → definition.changed_paths e t ≡ [] → definition.bundle e t ≡ None
no_bundle e t none = ap (bundle_from (needs (looks e) (target_looks t))) none

pub none_changed : (e : Edition) (t : Pages) → definition.bundle e t ≡ None → definition.changed_paths e t ≡ []
none_changed e t none = filter_none (changed (looks e) (target_looks t)) (bundle_none e t none) (paths_of e t)

module _ (admits : List Bundle → Type 0) (w : Worked) (log : List Bundle) (n : ℕ) (changed : List Path) (bundles : List (List Path)) (is : IsPress admits w log n changed bundles) where
  abbrev site : Parts
  site = w.journal.site

  abbrev now : Press
  now = press_of log w

  -- the target that the workshop lends
  pub target_aim : (t : Target) → w.target ≡ Some t.version → looks_of t ≡ pages_at site w.journal.commits w.target → IsTrue (is_sorted text_cmp (looks_of t)) → aim_of t ≡ aim w
  target_aim t made shown rising =
      (λ i. record {
        version = t.version;
        pages = (sorted_entries (looks_of t) rising
            ∙ ap (λ (l : List (Path × Look)). fin.from_entries {R = text_cmp} l) (shown ∙ ap (pages_at site w.journal.commits) made)) i;
      })
      ∙ ap (aim_at site w.journal.commits) (sym made)

  pub calm : changed ≡ [] → bundle (logged w log) (aim w) ≡ None
  calm none = no_bundle (edition log) (aim w).pages (sym is.changed ∙ none)

  pub untargeted : w.target ≡ None → bundle (logged w log) (aim w) ≡ None
  untargeted none =
      let empty : log ≡ [] = is.timely.unpublished none in
      no_bundle (edition log) (aim w).pages
      ((λ i. definition.changed_paths (edition (empty i)) (aim_at site w.journal.commits (none i)).pages) ∙ nothing_changed)

  pub nothing_told : bundle (logged w log) (aim w) ≡ None → publish_step site w.target now ≡ (NothingChanged, now)
  nothing_told none = ap (λ (o : Option (List Path)). publish_by (aim w).pages (aim w).version o now) none

  told-by : (o : Option (List Path)) → (publish_by (aim w).pages (aim w).version o now).0 ≡ NothingChanged → o ≡ None
  told-by None told = refl
  told-by (Some paths) told = absurd (cc)

  pub something_told : (changed ≡ [] → ⊥) → (publish_step site w.target now).0 ≡ NothingChanged → ⊥
  something_told some told =
      some (is.changed ∙ none_changed (edition log) (aim w).pages (told-by (bundle (logged w log) (aim w)) told))

  module _ (paths : List Path) (chosen : bundle (logged w log) (aim w) ≡ Some paths) where
    abbrev pub commits : List Commit
    commits = drop (length (history log)) (take (aim w).version w.journal.commits)

    abbrev pub due : Bundle
    due = bundle_of (aim w).pages (aim w).version commits paths

    pub sent_step : publish_step site w.target now ≡ (Published (length log + 1) (aim w).version (length due.puts) (length due.drops), press_of (log ++ due ∷ []) w)
    sent_step = ap (λ (o : Option (List Path)). publish_by (aim w).pages (aim w).version o now) chosen

    fit : IsGoodLog site (publish_step site w.target now).1.log × IsTimely site (publish_step site w.target now).1
    fit = stays_fit site any_limits now Publish is.good is.timely

    pub sent_good : IsGoodLog site (log ++ due ∷ [])
    sent_good = subst (λ (r : Told × Press). IsGoodLog site r.1.log) sent_step fit.0

    pub sent_timely : IsTimely site (press_of (log ++ due ∷ []) w)
    sent_timely = subst (λ (r : Told × Press). IsTimely site r.1) sent_step fit.1

    pub sent_count : length (history (log ++ due ∷ [])) ≡ (aim w).version
    sent_count =
        let all : history log ++ is.timely.covered.0 ≡ take (aim w).version w.journal.commits = is.timely.covered.1 in
        let rest : commits ≡ is.timely.covered.0 = ap (drop (length (history log))) (sym all) ∙ after_front (history log) is.timely.covered.0 in
        ap length (history_snoc log due ∙ ap (λ (l : List Commit). history log ++ l) rest ∙ all)
        ∙ length-take-le (aim w).version w.journal.commits is.timely.target_within

    pub published_within : n ≤ (aim w).version
    published_within =
        let all : history log ++ is.timely.covered.0 ≡ take (aim w).version w.journal.commits = is.timely.covered.1 in
        omega (is.published, ap length all, length-append (history log) is.timely.covered.0, length-take-le (aim w).version w.journal.commits is.timely.target_within, arith)

    -- once it is sent
    pub keeps_sent : (admits' : List Bundle → Type 0) (rec : Bundle) (log' : List Bundle) (n' : ℕ) (changed' : List Path) (bundles' : List (List Path)) →
        rec ≡ due → log' ≡ log ++ rec ∷ [] → n' ≡ rec.version → ((l : List Bundle) → admits l → admits' l) →
        changed' ≡ changed_paths (appended (logged w log) rec) (aim w) → IsSchedule (appended (logged w log) due) (aim w) bundles' → IsPress admits' w log' n' changed' bundles'
    keeps_sent admits' rec log' n' changed' bundles' rec_is log_is n_is more changed_is bundles_are =
        subst (λ (l : List Bundle). IsPress admits' w l n' changed' bundles') (sym (log_is ∙ ap (λ (b : Bundle). log ++ b ∷ []) rec_is)) (record {
          changed = changed_is ∙ ap (λ (b : Bundle). changed_paths (appended (logged w log) b) (aim w)) rec_is;
          bundles = bundles_are;
          published = n_is ∙ ap (λ (b : Bundle). b.version) rec_is ∙ sym sent_count;
          good = sent_good;
          timely = sent_timely;
          admits = λ l good. more l (is.admits l good);
        })

-- whether a bundle is left, by whether a path is changed
pub left_by : (admits : List Bundle → Type 0) (w : Worked) (log : List Bundle) (n : ℕ) (changed : List Path) (bundles : List (List Path)) → IsPress admits w log n changed bundles →
    (none : Bool) → (IsTrue none ↔ (changed ≡ [])) → not none ≡ is_some (bundle (logged w log) (aim w))
left_by admits w log n changed bundles is true tells = sym (ap is_some (calm admits w log n changed bundles is (tells.0 refl)))
left_by admits w log n changed bundles is false tells = by_bundle (bundle (logged w log) (aim w)) refl
  where
    by_bundle : (o : Option (List Path)) → bundle (logged w log) (aim w) ≡ o → true ≡ is_some o
    by_bundle None none = absurd (true≢false (sym (tells.1 (is.changed ∙ none_changed (edition log) (aim w).pages none))))
    by_bundle (Some paths) some = refl
