-- What a settle comes to, as its callers see it.
use Rattle.std.proofs.Common.{◌≡◌, ℕ, Bool, List, [], Option, Some, None, cond, length, refl, sym, ap, subst, ◌∙◌, arith}
use Rattle.std.specs.Ordering.{nat_cmp}
use Rattle.std.specs.FinMap as fin
use Rattle.std.proofs.lemmas.Bool.Decides.{Decides-eqb}
use Rattle.std.proofs.lemmas.Option.{none-some}
use Rattle.std.proofs.Math.Seq.{take-length}
use Rattle.dup_template.specs.declared.site.Parts.{Parts}
use Rattle.dup_model.specs.Commits.{Commit}
use Rattle.dup_model.specs.Content.{Content}
use Rattle.dup_model.specs.Embeddings.{EmbedsEarlier}
use Rattle.dup_model.specs.Journal.{Limits}
use Rattle.dup_model.specs.Touched.{expanded}
use Rattle.dup_model.specs.Versions.{content, version}
use Rattle.dup_build.specs.Answers.{begun_told}
use Rattle.dup_build.specs.declared.answers.Begun.{Begun}
use Rattle.dup_build.specs.declared.answers.Begun.TheVariants as begun
use Rattle.dup_machine.specs.Builds.{opened_at}
use Rattle.dup_machine.specs.Presses.{Press, begin_step, begins, build_at}
use Rattle.dup_machine.specs.Settle.{counts_of}
use Rattle.dup_machine.specs.Works.{more, work_from}
use Rattle.dup_machine.specs.World.{Counts, Told, Work, World}
use Rattle.dup_machine.specs.World as machine
use Rattle.dup_machine.specs.World.Begun.{Nothing}
use Rattle.dup_machine.specs.World.Told.{Begins, NothingChanged}
use Rattle.dup_machine.proofs.NothingDone.{nothing_is_done}
use Rattle.dup_press.specs.Pressed.{IsSamePlace, Pressed, Tells, pressed}
use Rattle.dup_press.specs.Settled.{PublishesLast, counts_to_last, last_content, left_by, left_to_expand, made_content}
use Rattle.dup_press.specs.Told.{summary_of}
use Rattle.dup_press.specs.Turns.{HasPublished, HasWorked, UntilTold, counts_left, publish_on, ticked}
use Rattle.dup_press.specs.declared.answers.Summary.{Summary}
use Rattle.dup_press.proofs.Chains.{HasWorkedOff, published_all}
use Rattle.dup_press.proofs.Outcomes.{ShowsLast, fresh_outcome, published_last, resumed_outcome}
use Rattle.dup_press.proofs.Settled.{worked}
use Rattle.dup_press.proofs.Settling.{nothing_begun}

any_limits : Limits
any_limits = record { rows = 0; commits = 0; bytes = 0 }

-- a world with this press
abbrev world_of : Press → World
world_of p = record { commits = p.commits; target = p.target; work = p.work; log = p.log; nodes = fin.empty; slots = fin.empty; replies = [] }

-- what a settle comes to
pub record Outcome (old : Pressed) (before : ℕ) (summary : Summary) (new : Pressed) (after : ℕ) : Type 0 where
  pub published : PublishesLast old new
  pub meter : after ≡ ticked before (left_to_expand old)
  pub counts : old.works.work ≡ None → summary ≡ summary_of old (counts_to_last old) new

no_more : (n : ℕ) → more 0 n ≡ 0 → n ≡ 0
no_more n none = omega (arith, none)

-- where no work is open and the target is of the last version, nothing is begun
nothing_told : (site : Parts) (p : Press) → p.work ≡ None → p.target ≡ Some (length p.commits) → (begin_step site p.work p.target p).0 ≡ Begins (Nothing (length p.commits))
nothing_told site p idle made =
    let n : ℕ = length p.commits in
    ap (λ (o : Option Work). (begin_step site o p.target p).0) idle
    ∙ ap (λ (t : Option ℕ). (begin_step site None t p).0) made
    ∙ ap (λ (same : Bool). (begins (cond same (Nothing n, build_at site n p) (opened_at n (content site p.commits) (work_from (version site p.commits n) n (content site p.commits)) (build_at site n p))) p).0) ((Decides-eqb n n).1 refl)

module _ (old mid new : Pressed) (summary : Summary) (same : IsSamePlace old mid) where
  abbrev site : Parts
  site = old.works.journal.site

  abbrev first : World
  first = world_of (pressed old)

  empty : fin.get first.slots 0 ≡ None
  empty = fin.get-empty nat_cmp 0

  publishes : ShowsLast site first (pressed new) → PublishesLast old new
  publishes is = record { commits = is.commits; idle = is.idle; made = is.made; shown = is.shown }

  -- where a work was begun
  module _ (t : machine.Begun) (begins_it : Tells (begin_step site old.works.work old.works.target) old (Begins t) mid) (other : (v : ℕ) → t ≡ Nothing v → ⊥)
      (earlier : EmbedsEarlier (last_content old)) (before after : ℕ) (h : HasWorked mid before summary new after) where
    off : HasWorkedOff site any_limits first h.hands.count h.counts (pressed new)
    off = worked old mid new summary same t begins_it before after h any_limits first refl empty

    says : (counts : Counts) → h.counts ≡ counts → summary ≡ summary_of old counts new
    says counts is =
        let log_is : mid.log ≡ old.log = ap (λ (r : Told × Press). r.1.log) (sym begins_it) in
        h.says ∙ (λ i. summary_of (record mid { log = log_is i }) (is i) new)

    not_made : old.works.work ≡ None → old.works.target ≡ Some (length old.works.journal.commits) → ⊥
    not_made idle made =
        let e : Begins t ≡ Begins (Nothing (length old.works.journal.commits)) = ap (λ (r : Told × Press). r.0) (sym begins_it) ∙ nothing_told site (pressed old) idle made in
        other (length old.works.journal.commits) (cc)

    by_work : (o : Option Work) → old.works.work ≡ o → Outcome old before summary new after
    by_work None idle =
        let law = fresh_outcome site any_limits first h.hands.count h.counts (pressed new) off earlier empty idle (not_made idle) in
        record {
          published = publishes law.2;
          meter = h.counted ∙ ap (ticked before) (law.0 ∙ ap (left_by old) (sym idle));
          counts = λ _. says (counts_to_last old) law.1;
        }
    by_work (Some work) has =
        let law = resumed_outcome site any_limits first h.hands.count h.counts (pressed new) off earlier empty work has in
        record {
          published = publishes law.1;
          meter = h.counted ∙ ap (ticked before) (law.0 ∙ ap (left_by old) (sym has));
          counts = λ idle. absurd (none-some work (sym idle ∙ has));
        }

    pub outcome_by_work : Outcome old before summary new after
    outcome_by_work = by_work old.works.work refl

  -- where nothing was
  module _ (v : ℕ) (begins_none : Tells (begin_step site old.works.work old.works.target) old (Begins (Nothing v)) mid) (h : HasPublished mid summary new) where
    none : ((pressed old).work ≡ None) × (((pressed old).target ≡ Some (length old.works.journal.commits)) × ((v ≡ length old.works.journal.commits) × (pressed mid ≡ pressed old)))
    none = nothing_begun site (pressed old) v (pressed mid) begins_none

    from_old : UntilTold (publish_on site) NothingChanged (pressed old) (pressed new)
    from_old = subst (λ (p : Press). UntilTold (publish_on site) NothingChanged p (pressed new)) none.1.1.1
        (subst (λ (s : Parts). UntilTold (publish_on s) NothingChanged (pressed mid) (pressed new)) same.site h.publishes)

    made_last : made_content old ≡ Some (last_content old)
    made_last = ap (λ (t : Option ℕ). made_content (record old { works = record old.works { target = t } })) none.1.0
        ∙ ap (λ (l : List Commit). Some (content site l)) (take-length old.works.journal.commits)

    counts_are : counts_to_last old ≡ counts_left mid
    counts_are =
        ap (λ (a : Option Content). counts_of a (last_content old) (length old.works.journal.commits)) made_last
        ∙ nothing_is_done (last_content old) (length old.works.journal.commits)
        ∙ (λ i. counts_left (record mid { works = record mid.works { journal = record mid.works.journal { site = sym same.site i; commits = (sym none.1.1.1 i).commits } } }))

    pub outcome_at_once : (before : ℕ) → Outcome old before summary new before
    outcome_at_once before =
        let all = published_all site any_limits (pressed old) (pressed new) first (record { press = refl; slot = empty }) from_old in
        record {
          published = publishes (published_last site any_limits first first from_old.count (pressed new)
              (record { commits = refl; idle = none.0; target = none.1.0 }) all.1 all.0.press);
          meter = ap (ticked before) (none_left ∙ ap (left_by old) (sym none.0));
          counts = λ _. h.says ∙ (λ i. summary_of (record mid { log = (none.1.1.1 i).log }) (sym counts_are i) new);
        }
      where
        -- nothing is to be expanded
        none_left : 0 ≡ length (expanded (made_content old) (last_content old))
        none_left =
            sym (no_more (length (expanded (Some (last_content old)) (last_content old))) (ap (λ (c : Counts). c.expanded) (nothing_is_done (last_content old) 0)))
            ∙ ap (λ (a : Option Content). length (expanded a (last_content old))) (sym made_last)

-- where the answer is that nothing is begun
pub outcome_if_nothing : (old mid new : Pressed) (summary : Summary) (b : Begun) (v : ℕ) (before : ℕ) → IsSamePlace old mid → b ≡ begun.Nothing v →
    Tells (begin_step old.works.journal.site old.works.work old.works.target) old (Begins (begun_told b)) mid → HasPublished mid summary new → Outcome old before summary new before
outcome_if_nothing old mid new summary b v before same is tells h =
    outcome_at_once old mid new summary same v
    (subst (λ (x : Begun). Tells (begin_step old.works.journal.site old.works.work old.works.target) old (Begins (begun_told x)) mid) is tells) h before
