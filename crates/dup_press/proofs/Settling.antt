-- Turns, levels and bundles: each leaves less to do.
use Rattle.std.proofs.Common.{◌≡◌, ◌+◌, ℕ, zero, suc, ◌<◌, ◌≤◌, Bool, true, false, cond, List, [], ◌∷◌, Option, Some, None, length, take, refl, sym, ap, subst, ◌∙◌, arith}
use Rattle.std.specs.Prelude.{◌==◌}
use Rattle.std.proofs.Math.Seq.{take-length}
use Rattle.std.proofs.lemmas.Bool.{or_left}
use Rattle.std.proofs.lemmas.Bool.Decides.{Decides-eqb}
use Rattle.std.proofs.lemmas.Option.{none-some, same_Some}
use Rattle.dup_names.specs.Order.{obj_cmp}
use Rattle.dup_names.specs.declared.object.Obj.{Obj}
use Rattle.dup_names.specs.Objects.{is_in, same_obj}
use Rattle.dup_names.specs.Words.{in_order}
use Rattle.dup_names.proofs.ObjectOrder.{obj_itself}
use Rattle.dup_template.specs.declared.site.Parts.{Parts}
use Rattle.dup_model.specs.Commits.{Commit}
use Rattle.dup_model.specs.Content.{Content}
use Rattle.dup_model.specs.Embeddings.{EmbedsEarlier}
use Rattle.dup_model.specs.Expansions.{notes}
use Rattle.dup_model.specs.Found.{waiting}
use Rattle.dup_model.specs.Journal.{Limits}
use Rattle.dup_model.specs.Pages.{live}
use Rattle.dup_model.specs.Touched.{without}
use Rattle.dup_model.specs.Versions.{content, version}
use Rattle.dup_model.proofs.Finds.{notes_hold}
use Rattle.dup_machine.specs.Builds.{Build, finished_in, handed_by, joined_in, kept_by, opened_at}
use Rattle.dup_machine.specs.Presses.{Press, begin_step, begins, begun_version, build_at, finish_step, finishes, hand_step, hands, join_step, joins, put_step, puts, with_build}
use Rattle.dup_machine.specs.Works.{first_work, level, moved, next_of, unjoined, with_done, with_joined, work_from}
use Rattle.dup_machine.specs.World.{Begun, Counts, Joined, Told, Work, first_world}
use Rattle.dup_machine.specs.World.Begun.{Nothing, Opened, Same}
use Rattle.dup_machine.specs.World.Ended.{Report}
use Rattle.dup_machine.specs.World.Joined.{Done, Level}
use Rattle.dup_machine.specs.World.Told.{Begins, Finished, Joins, Unasked}
use Rattle.dup_machine.proofs.Levels.{next_in, some_level}
use Rattle.dup_machine.proofs.Settling.{has_one, level_less, one_done}
use Rattle.dup_press.specs.Turns.{IsTurn, IsWorking, Turns, join_on}

any_limits : Limits
any_limits = record { rows = 0; commits = 0; bytes = 0 }

-- how many objects a work has left to expand, and how many found ones have no look
abbrev pub to_expand : Content → Option Work → ℕ
to_expand c None = 0
to_expand c (Some work) = length (without (is_in work.done) (live c))

abbrev pub to_join : Content → Option Work → ℕ
to_join c None = 0
to_join c (Some work) = length (unjoined c work)

none_next : (last : Option Obj) → next_of last [] ≡ None
none_next None = refl
none_next (Some o) = refl

next_waits : (last : Option Obj) (ws : List Obj) (o : Obj) → next_of last ws ≡ Some o → is_in ws o ≡ true
next_waits last [] o is = absurd (none-some o (sym (none_next last) ∙ is))
next_waits last (w ∷ ws) o is =
    let next : (x : Obj) × (next_of last (w ∷ ws) ≡ Some x) × (is_in (w ∷ ws) x ≡ true) = next_in last w ws in
    ap (is_in (w ∷ ws)) (same_Some o next.0 (sym is ∙ next.1)) ∙ next.2

module _ (site : Parts) where
  -- the content of the last `begin`
  abbrev pub content_of : Press → Content
  content_of p = version site p.commits (begun_version p.work p.target)

  module _ (p : Press) (work : Work) (busy : p.work ≡ Some work) where
    abbrev c : Content
    c = version site p.commits work.version

    abbrev pub taken : Obj → Work
    taken o = record work { last_handed = Some o }

    abbrev pub in_hand : Obj → Press
    in_hand o = record p { work = Some (taken o) }

    abbrev pub brought : Obj → Press
    brought o = record p { work = Some (with_done o (taken o)) }

    hand_at : (n : Option Obj) → next_of work.last_handed (waiting c work.done) ≡ n → hand_step site p.work p.target p ≡ hands (handed_by work n (build_at site work.version p)) p
    hand_at n next =
        ap (λ (o : Option Work). hand_step site o p.target p) busy
        ∙ ap (λ (o : Option Obj). hands (handed_by work o (build_at site work.version p)) p) next

    -- what is handed waits, and is held then
    pub handed_is : (o : Obj) (h : Press) → hand_step site p.work p.target p ≡ (Some o, h) → (is_in (waiting c work.done) o ≡ true) × (h ≡ in_hand o)
    handed_is o h goes = by_next (next_of work.last_handed (waiting c work.done)) refl
      where
        by_next : (n : Option Obj) → next_of work.last_handed (waiting c work.done) ≡ n → (is_in (waiting c work.done) o ≡ true) × (h ≡ in_hand o)
        by_next None next = absurd (none-some o (sym (ap (λ (r : Option Obj × Press). r.0) (hand_at None next)) ∙ ap (λ (r : Option Obj × Press). r.0) goes))
        by_next (Some x) next =
            let same : (Some x, in_hand x) ≡ (Some o, h) = sym (hand_at (Some x) next) ∙ goes in
            let one : x ≡ o = same_Some x o (ap (λ (r : Option Obj × Press). r.0) same) in (
              next_waits work.last_handed (waiting c work.done) o (next ∙ ap Some one),
              sym (ap (λ (r : Option Obj × Press). r.1) same) ∙ ap in_hand one,
            )

    -- where none is handed none waits
    pub none_waits : (h : Press) → hand_step site p.work p.target p ≡ (None, h) → waiting c work.done ≡ []
    none_waits h goes = by_waiting (waiting c work.done) refl
      where
        by_waiting : (ws : List Obj) → waiting c work.done ≡ ws → ws ≡ []
        by_waiting [] is = refl
        by_waiting (w ∷ ws) is =
            let next : (x : Obj) × (next_of work.last_handed (w ∷ ws) ≡ Some x) × (is_in (w ∷ ws) x ≡ true) = next_in work.last_handed w ws in
            absurd (none-some next.0 (sym (ap (λ (r : Option Obj × Press). r.0) goes) ∙ ap (λ (r : Option Obj × Press). r.0) (hand_at (Some next.0) (ap (next_of work.last_handed) is ∙ next.1))))

    -- and the press is as it was
    pub none_leads : (h : Press) → hand_step site p.work p.target p ≡ (None, h) → h ≡ p
    none_leads h goes = by_next (next_of work.last_handed (waiting c work.done)) refl
      where
        by_next : (n : Option Obj) → next_of work.last_handed (waiting c work.done) ≡ n → h ≡ p
        by_next None next = ap (λ (r : Option Obj × Press). r.1) (sym goes ∙ hand_at None next)
        by_next (Some x) next = absurd (none-some x (sym (ap (λ (r : Option Obj × Press). r.0) goes) ∙ ap (λ (r : Option Obj × Press). r.0) (hand_at (Some x) next)))

    -- an expansion over the work's content is kept
    pub brought_is : (o : Obj) → is_in (waiting c work.done) o ≡ true → (put_step site o (notes c o) (Some (taken o)) p.target (in_hand o)).1 ≡ brought o
    brought_is o waits =
        let b : Build = build_at site work.version (in_hand o) in
        λ i. (puts (cond (waits i) (kept_by o (taken o) (notes_hold c o i) b) (Unasked o, b)) (in_hand o)).1

    pub turn_leads : (h q : Press) (o : Obj) → hand_step site p.work p.target p ≡ (Some o, h) →
        (put_step site o (notes c o) h.work h.target h).1 ≡ q → (is_in (waiting c work.done) o ≡ true) × (q ≡ brought o)
    turn_leads h q o goes put =
        let handed : (is_in (waiting c work.done) o ≡ true) × (h ≡ in_hand o) = handed_is o h goes in (
          handed.0,
          sym put ∙ ap (λ (x : Press). (put_step site o (notes c o) x.work x.target x).1) handed.1 ∙ brought_is o handed.0,
        )

    pub turn_less : (o : Obj) → is_in (waiting c work.done) o ≡ true → to_expand c (Some (with_done o (taken o))) < to_expand c (Some work)
    turn_less o waits =
        let fewer : suc (length (without (is_in (in_order obj_cmp (o ∷ work.done))) (live c))) ≡ length (without (is_in work.done) (live c)) =
        one_done site any_limits (record first_world { commits = take work.version p.commits }) work.done o waits in
        omega (fewer, arith)

    -- `join` where none waits
    module _ (calm : waiting c work.done ≡ []) where
      join_at : (us : List Obj) → unjoined c work ≡ us → join_on site p ≡ joins (joined_in work [] us (level c work) (build_at site work.version p)) p
      join_at us is =
          ap (λ (o : Option Work). join_step site o p.target p) busy
          ∙ (λ i. joins (joined_in work (calm i) (is i) (level c work) (build_at site work.version p)) p)

      pub join_leads : (n : ℕ) (q : Press) → join_on site p ≡ (Joins (Level n), q) → EmbedsEarlier c →
          (q ≡ record p { work = Some (with_joined (level c work) work) }) × (to_join c (Some (with_joined (level c work) work)) < to_join c (Some work))
      join_leads n q goes earlier = by_unjoined (unjoined c work) refl
        where
          by_unjoined : (us : List Obj) → unjoined c work ≡ us →
              (q ≡ record p { work = Some (with_joined (level c work) work) }) × (to_join c (Some (with_joined (level c work) work)) < to_join c (Some work))
          by_unjoined [] is =
              let e : Joins Done ≡ Joins (Level n) = ap (λ (r : Told × Press). r.0) (sym (join_at [] is) ∙ goes) in
              absurd (cc)
          by_unjoined (u ∷ us) is =
              let some : (v : Obj) × (is_in (level c work) v ≡ true) = some_level c work earlier calm (suc u.template) u (omega arith) (ap (λ l. is_in l u) is ∙ or_left (same_obj u u) (is_in us u) (obj_itself u)) in
              let least : 1 ≤ length (level c work) = has_one (level c work) some.0 some.1 in
              let less : length (unjoined c (with_joined (level c work) work)) + length (level c work) ≡ length (unjoined c work) =
              level_less site any_limits (record first_world { commits = take work.version p.commits }) work in (
                ap (λ (r : Told × Press). r.1) (sym goes ∙ join_at (u ∷ us) is),
                omega (least, less, arith),
              )

      -- any other answer is that all is joined
      pub join_ends : (q : Press) (j : Joined) → join_on site p ≡ (Joins j, q) → ((n : ℕ) → j ≡ Level n → ⊥) → (join_on site p ≡ (Joins Done, p)) × (q ≡ p)
      join_ends q j goes other = by_unjoined (unjoined c work) refl
        where
          by_unjoined : (us : List Obj) → unjoined c work ≡ us → (join_on site p ≡ (Joins Done, p)) × (q ≡ p)
          by_unjoined [] is = (join_at [] is, ap (λ (r : Told × Press). r.1) (sym goes ∙ join_at [] is))
          by_unjoined (u ∷ us) is =
              let e : Joins j ≡ Joins (Level (length (level c work))) = ap (λ (r : Told × Press). r.0) (sym goes ∙ join_at (u ∷ us) is) in
              absurd (other (length (level c work)) (cc))

      -- what `join` says where all is joined, and `finish` then
      pub none_left : (q : Press) → join_on site p ≡ (Joins Done, q) → unjoined c work ≡ []
      none_left q goes = by_unjoined (unjoined c work) refl
        where
          by_unjoined : (us : List Obj) → unjoined c work ≡ us → us ≡ []
          by_unjoined [] is = refl
          by_unjoined (u ∷ us) is =
              let e : Joins Done ≡ Joins (Level (length (level c work))) = ap (λ (r : Told × Press). r.0) (sym goes ∙ join_at (u ∷ us) is) in
              absurd (cc)

      pub finish_reports : unjoined c work ≡ [] → (counts : Counts) × (finish_step site p.work p.target p ≡ (Finished (Report counts), record p { target = Some work.version; work = None }))
      finish_reports none = (
        _,
        ap (λ (o : Option Work). finish_step site o p.target p) busy
            ∙ (λ i. finishes (finished_in work (calm i) (none i) (build_at site work.version p)) p),
      )

-- a turn leaves a work open at the same content, with one object less to expand
module _ (site : Parts) (p q : Press) (at : IsWorking site p) (t : IsTurn site p q) where
  one_work : at.work ≡ t.work
  one_work = same_Some at.work t.work (sym at.busy ∙ t.busy)

  held_commits : t.held.commits ≡ p.commits
  held_commits = ap (λ (x : Press). x.commits) (handed_is site p t.work t.busy t.obj t.held t.handed).1

  leads : (is_in (waiting (version site p.commits t.work.version) t.work.done) t.obj ≡ true) × (q ≡ brought site p t.work t.busy t.obj)
  leads = turn_leads site p t.work t.busy t.held q t.obj t.handed
      (ap (λ (cs : List Commit). (put_step site t.obj (notes (version site cs t.work.version) t.obj) t.held.work t.held.target t.held).1) (sym held_commits) ∙ t.brought)

  pub working_turned : IsWorking site q
  working_turned = subst (IsWorking site) (sym leads.1) (record {
    work = with_done t.obj (record t.work { last_handed = Some t.obj });
    busy = refl;
    earlier = subst (λ (w : Work). EmbedsEarlier (version site p.commits w.version)) one_work at.earlier;
  })

  pub turned_less : to_expand (content_of site q) q.work < to_expand (content_of site p) p.work
  turned_less =
      let less : to_expand (version site p.commits t.work.version) (Some (with_done t.obj (record t.work { last_handed = Some t.obj }))) < to_expand (version site p.commits t.work.version) (Some t.work) =
      turn_less site p t.work t.busy t.obj leads.0 in
      subst (λ (x : Press). to_expand (content_of site x) x.work < to_expand (content_of site p) p.work) (sym leads.1)
      (subst (λ (o : Option Work). to_expand (version site p.commits t.work.version) (Some (with_done t.obj (record t.work { last_handed = Some t.obj }))) < to_expand (version site p.commits (begun_version o p.target)) o) (sym t.busy) less)

-- turns leave a work open, at the same content
pub turns_work : (site : Parts) (k : ℕ) (p q : Press) → Turns site k p q → IsWorking site p → IsWorking site q
turns_work site zero p q is at = subst (IsWorking site) is at
turns_work site (suc k) p q (mid, (turns, turn)) at =
    let before : IsWorking site mid = turns_work site k p mid turns at in
    working_turned site mid q before turn

-- `begin`
module _ (site : Parts) (p : Press) where
  opened_busy : (same : Bool) (work next : Work) (b : Build) (n : ℕ) (d : Content) (t : Begun) (q : Press) → (same ≡ true → work.version ≡ n) → next.version ≡ n → b.work ≡ Some work →
      begins (cond same (Same work.version, b) (opened_at n d next b)) p ≡ (Begins t, q) → (w : Work) × ((q.work ≡ Some w) × (w.version ≡ n))
  opened_busy true work next b n d t q here there has goes = (work, (sym (ap (λ (r : Told × Press). r.1.work) goes) ∙ has, here refl))
  opened_busy false work next b n d t q here there has goes = (next, (sym (ap (λ (r : Told × Press). r.1.work) goes), there))

  other_busy : (same : Bool) (a : ℕ) (next : Work) (b : Build) (n : ℕ) (d : Content) (t : Begun) (q : Press) → next.version ≡ n → ((v : ℕ) → t ≡ Nothing v → ⊥) →
      begins (cond same (Nothing a, b) (opened_at n d next b)) p ≡ (Begins t, q) → (w : Work) × ((q.work ≡ Some w) × (w.version ≡ n))
  other_busy true a next b n d t q there other goes =
      let e : Begins (Nothing a) ≡ Begins t = ap (λ (r : Told × Press). r.0) goes in
      absurd (other a (cc))
  other_busy false a next b n d t q there other goes = (next, (sym (ap (λ (r : Told × Press). r.1.work) goes), there))

  work_begun : (work : Option Work) (target : Option ℕ) → p.work ≡ work → (t : Begun) (q : Press) → ((v : ℕ) → t ≡ Nothing v → ⊥) → begin_step site work target p ≡ (Begins t, q) →
      (w : Work) × ((q.work ≡ Some w) × (w.version ≡ length p.commits))
  work_begun (Some work) target has t q other goes =
      opened_busy (work.version == length p.commits) work (moved (version site p.commits work.version) (length p.commits) (content site p.commits) work) (build_at site work.version p) (length p.commits) (content site p.commits) t q
      (λ is. (Decides-eqb work.version (length p.commits)).0 is) refl has goes
  work_begun None None has t q other goes = (first_work (length p.commits), (sym (ap (λ (r : Told × Press). r.1.work) goes), refl))
  work_begun None (Some a) has t q other goes =
      other_busy (a == length p.commits) a (work_from (version site p.commits a) (length p.commits) (content site p.commits)) (build_at site a p) (length p.commits) (content site p.commits) t q refl other goes

  -- a work is open at the last version then
  pub begun_working : (t : Begun) (q : Press) → ((v : ℕ) → t ≡ Nothing v → ⊥) → begin_step site p.work p.target p ≡ (Begins t, q) → EmbedsEarlier (content site p.commits) → q.commits ≡ p.commits → IsWorking site q
  begun_working t q other goes earlier same =
      let w : (w : Work) × ((q.work ≡ Some w) × (w.version ≡ length p.commits)) = work_begun p.work p.target refl t q other goes in
      record {
        work = w.0;
        busy = w.1.0;
        earlier = subst EmbedsEarlier (sym ((λ i. content site (take (w.1.1 i) (same i))) ∙ ap (content site) (take-length p.commits))) earlier;
      }

  nothing_if : (same : Bool) (a : ℕ) (next : Work) (b : Build) (n : ℕ) (d : Content) (v : ℕ) (q : Press) → begins (cond same (Nothing a, b) (opened_at n d next b)) p ≡ (Begins (Nothing v), q) → (same ≡ true) × ((v ≡ a) × (q ≡ with_build b p))
  nothing_if true a next b n d v q goes =
      let e : Begins (Nothing a) ≡ Begins (Nothing v) = ap (λ (r : Told × Press). r.0) goes in
      (refl, (cc, sym (ap (λ (r : Told × Press). r.1) goes)))
  nothing_if false a next b n d v q goes =
      let e : Begins (Opened n (length (waiting d next.done))) ≡ Begins (Nothing v) = ap (λ (r : Told × Press). r.0) goes in
      absurd (cc)

  not_nothing : (same : Bool) (work next : Work) (b : Build) (n : ℕ) (d : Content) (v : ℕ) (q : Press) → begins (cond same (Same work.version, b) (opened_at n d next b)) p ≡ (Begins (Nothing v), q) → ⊥
  not_nothing true work next b n d v q goes =
      let e : Begins (Same work.version) ≡ Begins (Nothing v) = ap (λ (r : Told × Press). r.0) goes in
      cc
  not_nothing false work next b n d v q goes =
      let e : Begins (Opened n (length (waiting d next.done))) ≡ Begins (Nothing v) = ap (λ (r : Told × Press). r.0) goes in
      cc

  none_begun : (work : Option Work) (target : Option ℕ) → p.work ≡ work → p.target ≡ target → (v : ℕ) (q : Press) → begin_step site work target p ≡ (Begins (Nothing v), q) →
      (p.work ≡ None) × ((p.target ≡ Some (length p.commits)) × ((v ≡ length p.commits) × (q ≡ p)))
  none_begun (Some work) target has made v q goes =
      absurd (not_nothing (work.version == length p.commits) work (moved (version site p.commits work.version) (length p.commits) (content site p.commits) work) (build_at site work.version p) (length p.commits) (content site p.commits) v q goes)
  none_begun None None has made v q goes =
      let e : Begins (Opened (length p.commits) (length (waiting (content site p.commits) []))) ≡ Begins (Nothing v) = ap (λ (r : Told × Press). r.0) goes in
      absurd (cc)
  none_begun None (Some a) has made v q goes =
      let is : ((a == length p.commits) ≡ true) × ((v ≡ a) × (q ≡ p)) =
      nothing_if (a == length p.commits) a (work_from (version site p.commits a) (length p.commits) (content site p.commits)) (build_at site a p) (length p.commits) (content site p.commits) v q goes in
      let last : a ≡ length p.commits = (Decides-eqb a (length p.commits)).0 is.0 in
      (has, (made ∙ ap Some last, (is.1.0 ∙ last, is.1.1)))

  -- nothing is begun where no work is open and the target is of the last version
  pub nothing_begun : (v : ℕ) (q : Press) → begin_step site p.work p.target p ≡ (Begins (Nothing v), q) →
      (p.work ≡ None) × ((p.target ≡ Some (length p.commits)) × ((v ≡ length p.commits) × (q ≡ p)))
  nothing_begun v q goes = none_begun p.work p.target refl refl v q goes
