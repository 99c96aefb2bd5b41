-- Works stay at versions of the journal, call by call.
use Rattle.std.proofs.Common.{◌≡◌, ◌≤◌, ◌+◌, ℕ, Bool, true, false, refl, sym, ap, ◌∙◌, subst, List, [], ◌∷◌, ◌++◌, length, arith, length-append}
use Rattle.std.specs.Prelude.{Option, Some, None, Result, Ok, Err, IfErr, IfOk, IfSome, IsSome, OnOk, drop, take, if◌then◌else◌}
use Rattle.std.proofs.lemmas.Bool.{true≢false}
use Rattle.std.proofs.lemmas.Grind.{fold-append}
use Rattle.std.proofs.lemmas.List.{take_all, take-append-le, take-append-drop}
use Rattle.std.specs.List.{fold}
use Rattle.dup_names.specs.Objects.{is_in}
use Rattle.dup_names.specs.declared.object.Item.{Item}
use Rattle.dup_names.specs.declared.object.Obj.{Obj}
use Rattle.dup_template.specs.declared.site.Parts.{Parts}
use Rattle.dup_template.specs.declared.value.Value.{Value}
use Rattle.dup_model.specs.Commits.{Commit, Refusal, after}
use Rattle.dup_model.specs.Journal.{commit_refusal}
use Rattle.dup_model.proofs.Histories.{content_frame}
use Rattle.dup_template.specs.Frame.{Frame, frame_of}
use Rattle.dup_model.specs.Content.{Content, start}
use Rattle.dup_model.specs.Expansions.{stale}
use Rattle.dup_model.specs.Found.{waiting}
use Rattle.dup_model.specs.Pages.{live, page_looks}
use Rattle.dup_model.specs.Versions.{content, version}
use Rattle.dup_machine.specs.Builds.{Build, begin_in, finish_in, finished_in, hand_in, handed_by, join_in, joined_in, kept_by, opened_at, put_in}
use Rattle.dup_machine.specs.Presses.{Press, begun_version, build_at, commit_step, finish_step, with_build}
use Rattle.dup_machine.specs.World as machine
use Rattle.dup_machine.specs.World.{Begun, Work}
use Rattle.dup_machine.specs.World.Told.{Unasked}
use Rattle.dup_machine.specs.Works.{first_work, level, moved, next_of, unjoined, work_from}
use Rattle.dup_build.specs.Answers.{IsUnclosed, SaysPut, finish_told}
use Rattle.dup_build.specs.Built.{Built, closed, done_by, done_in, unjoined_by, waiting_by, with_works}
use Rattle.dup_build.specs.declared.answers.Closing.{Closing}
use Rattle.dup_build.specs.declared.answers.Finish.{Finish}
use Rattle.dup_build.specs.declared.answers.Put.{Put}
use Rattle.dup_build.specs.declared.answers.Put.TheVariants as put
use Rattle.dup_model.specs.Editions.{Bundle}
use Rattle.dup_press.specs.Journaled.{Journaled}
use Rattle.dup_records.specs.declared.refusal.CommitRefusal.{CommitRefusal}
use Rattle.dup_press.specs.Worked.{IsStep, Worked, built_of, pages_at, press_of}
use Rattle.dup_press.specs.Workshop.{AreAt, IsWorkshop}

last-version : (site : Parts) (commits : List Commit) → content site commits ≡ version site commits (length commits)
last-version site commits = ap (content site) (sym (take_all (length commits) commits (omega arith)))

opened-at : (site : Parts) (commits : List Commit) (b : Build) (work : Work) → AreAt site commits b → work.version ≡ length commits →
    AreAt site commits (opened_at (length commits) (content site commits) work b).1
opened-at site commits b work at is = record {
  begun = sym is;
  content = last-version site commits;
  within = omega arith;
  made = at.made;
}

begun-if : (site : Parts) (commits : List Commit) (b : Build) (work : Work) (told : Begun) (same : Bool) → AreAt site commits b → work.version ≡ length commits →
    AreAt site commits (if same then (told, b) else opened_at (length commits) (content site commits) work b).1
begun-if site commits b work told true at is = at
begun-if site commits b work told false at is = opened-at site commits b work at is

pub begun_at : (site : Parts) (commits : List Commit) (b : Build) (work : Option Work) (target : Option ℕ) → AreAt site commits b →
    AreAt site commits (begin_in (length commits) (content site commits) work target b).1
begun_at site commits b (Some work) target at = begun-if site commits b (moved b.content (length commits) (content site commits) work) _ _ at refl
begun_at site commits b None None at = opened-at site commits b (first_work (length commits)) at refl
begun_at site commits b None (Some a) at = begun-if site commits b (work_from b.content (length commits) (content site commits)) _ _ at refl

-- other work at the same version
worked-at : (site : Parts) (commits : List Commit) (b : Build) (old new : Work) → AreAt site commits b → b.work ≡ Some old → new.version ≡ old.version →
    AreAt site commits (record b { work = Some new })
worked-at site commits b old new at is same = record {
  begun = at.begun ∙ ap (λ (w : Option Work). begun_version w b.target) is ∙ sym same;
  content = at.content;
  within = at.within;
  made = at.made;
}

handed-at : (site : Parts) (commits : List Commit) (b : Build) (work : Work) (o : Option Obj) → AreAt site commits b → b.work ≡ Some work →
    AreAt site commits (handed_by work o b).1
handed-at site commits b work None at is = at
handed-at site commits b work (Some o) at is = worked-at site commits b work _ at is refl

pub handed_at : (site : Parts) (commits : List Commit) (b : Build) (work : Option Work) → AreAt site commits b → b.work ≡ work → AreAt site commits (hand_in work b).1
handed_at site commits b None at is = at
handed_at site commits b (Some work) at is = handed-at site commits b work (next_of work.last_handed (waiting b.content work.done)) at is

kept-at : (site : Parts) (commits : List Commit) (b : Build) (o : Obj) (work : Work) (note : Option (Item × Value)) → AreAt site commits b → b.work ≡ Some work →
    AreAt site commits (kept_by o work note b).1
kept-at site commits b o work (Some note) at is = at
kept-at site commits b o work None at is = worked-at site commits b work _ at is refl

put-if : (site : Parts) (commits : List Commit) (b : Build) (o : Obj) (ns : List (Item × Value)) (work : Work) (waits : Bool) → AreAt site commits b → b.work ≡ Some work →
    AreAt site commits (if waits then kept_by o work (stale b.content ns) b else (Unasked o, b)).1
put-if site commits b o ns work true at is = kept-at site commits b o work (stale b.content ns) at is
put-if site commits b o ns work false at is = at

pub put_at : (site : Parts) (commits : List Commit) (b : Build) (o : Obj) (ns : List (Item × Value)) (work : Option Work) → AreAt site commits b → b.work ≡ work →
    AreAt site commits (put_in o ns work b).1
put_at site commits b o ns None at is = at
put_at site commits b o ns (Some work) at is = put-if site commits b o ns work (is_in (waiting b.content work.done) o) at is

joined-at : (site : Parts) (commits : List Commit) (b : Build) (work : Work) (waits us next : List Obj) → AreAt site commits b → b.work ≡ Some work →
    AreAt site commits (joined_in work waits us next b).1
joined-at site commits b work (o ∷ os) us next at is = at
joined-at site commits b work [] [] next at is = at
joined-at site commits b work [] (u ∷ us) next at is = worked-at site commits b work _ at is refl

pub joined_at : (site : Parts) (commits : List Commit) (b : Build) (work : Option Work) → AreAt site commits b → b.work ≡ work → AreAt site commits (join_in work b).1
joined_at site commits b None at is = at
joined_at site commits b (Some work) at is = joined-at site commits b work (waiting b.content work.done) (unjoined b.content work) (level b.content work) at is

pub open-version : (site : Parts) (commits : List Commit) (b : Build) (work : Work) → AreAt site commits b → b.work ≡ Some work → b.version ≡ work.version
open-version site commits b work at is = at.begun ∙ ap (λ (w : Option Work). begun_version w b.target) is

finished-at : (site : Parts) (commits : List Commit) (b : Build) (work : Work) (waits us : List Obj) → AreAt site commits b → b.work ≡ Some work →
    AreAt site commits (finished_in work waits us b).1
finished-at site commits b work (o ∷ os) us at is = at
finished-at site commits b work [] (u ∷ us) at is = at
finished-at site commits b work [] [] at is = record {
  begun = open-version site commits b work at is;
  content = at.content;
  within = at.within;
  made = λ v made. let same : work.version ≡ v = cc in omega (same, open-version site commits b work at is, at.within, arith);
}

pub finished_at : (site : Parts) (commits : List Commit) (b : Build) (work : Option Work) → AreAt site commits b → b.work ≡ work → AreAt site commits (finish_in work b).1
finished_at site commits b None at is = at
finished_at site commits b (Some work) at is = finished-at site commits b work (waiting b.content work.done) (unjoined b.content work) at is

-- a target of a version that was made stays the same behind one more commit
made-pages : (site : Parts) (commits more : List Commit) (target : Option ℕ) → ((v : ℕ) → target ≡ Some v → v ≤ length commits) →
    pages_at site commits target ≡ pages_at site (commits ++ more) target
made-pages site commits more None made = refl
made-pages site commits more (Some v) made = ap (λ (l : List Commit). page_looks (content site l)) (sym (take-append-le v commits more (made v refl)))

pub committed_pages : (site : Parts) (commits more : List Commit) (b : Build) → AreAt site commits b → pages_at site commits b.target ≡ pages_at site (commits ++ more) b.target
committed_pages site commits more b at = made-pages site commits more b.target at.made

pub committed_at : (site : Parts) (commits more : List Commit) (b : Build) → AreAt site commits b → AreAt site (commits ++ more) b
committed_at site commits more b at = record {
  begun = at.begun;
  content = at.content ∙ ap (content site) (sym (take-append-le b.version commits more at.within));
  within = omega (at.within, length-append commits more, arith);
  made = λ v is. omega (at.made v is, length-append commits more, arith);
}

-- the pages are the target's once `finish` has answered
finished-pages : (site : Parts) (commits : List Commit) (b : Built) (work : Work) (waits us : List Obj) → AreAt site commits b.works → b.works.work ≡ Some work →
    b.pages ≡ pages_at site commits b.works.target →
    (closed (finished_in work waits us b.works) b).pages ≡ pages_at site commits (closed (finished_in work waits us b.works) b).works.target
finished-pages site commits b work (o ∷ os) us at is pages = pages
finished-pages site commits b work [] (u ∷ us) at is pages = pages
finished-pages site commits b work [] [] at is pages =
    ap page_looks (at.content ∙ ap (version site commits) (open-version site commits b.works work at is))

pub finished_pages : (site : Parts) (commits : List Commit) (b : Built) (work : Option Work) → AreAt site commits b.works → b.works.work ≡ work →
    b.pages ≡ pages_at site commits b.works.target →
    (closed (finish_in work b.works) b).pages ≡ pages_at site commits (closed (finish_in work b.works) b).works.target
finished_pages site commits b None at is pages = pages
finished_pages site commits b (Some work) at is pages = finished-pages site commits b work (waiting b.works.content work.done) (unjoined b.works.content work) at is pages

-- the machine's build is this one
pub same_build : (site : Parts) (commits : List Commit) (b : Build) → AreAt site commits b →
    record { version = begun_version b.work b.target; content = version site commits (begun_version b.work b.target); target = b.target; work = b.work } ≡ b
same_build site commits b at =
    ap (λ (v : ℕ). record { version = v; content = version site commits v; target = b.target; work = b.work }) (sym at.begun)
    ∙ ap (λ (c : Content). record { version = b.version; content = c; target = b.target; work = b.work }) (sym at.content)

-- the workshop of a journal and a build
abbrev pub worked : Journaled → Built → Worked
worked j b = record { journal = j; target = b.works.target; work = b.works.work }

-- a call of the build is the machine's step of the press
pub step_of : (X : Type 0) (j : Journaled) (b new : Built) (log : List Bundle) (call : Build → X × Build) (answer : X) → AreAt j.site j.commits b.works →
    answer ≡ (call b.works).0 → new.works ≡ (call b.works).1 →
    ◌≡◌ {A = X × Press} (
      (call (build_at j.site (begun_version b.works.work b.works.target) (press_of log (worked j b)))).0,
      with_build (call (build_at j.site (begun_version b.works.work b.works.target) (press_of log (worked j b)))).1 (press_of log (worked j b)),
    )
    (answer, press_of log (worked j new))
step_of X j b new log call answer at told is =
    let pair : X → Build → X × Press = λ a x. (a, with_build x (press_of log (worked j b))) in
    ap (λ (x : Build). pair (call x).0 (call x).1) (same_build j.site j.commits b.works at)
    ∙ ap (pair (call b.works).0) (sym is)
    ∙ ap (λ (a : X). pair a new.works) (sym told)

-- the commits since the last `begin` lead from its content to the last one
pub since_begun : (site : Parts) (commits : List Commit) (b : Build) (v : ℕ) → AreAt site commits b → v ≡ begun_version b.work b.target →
    content site commits ≡ fold after b.content (drop v commits)
since_begun site commits b v at is =
    let same : v ≡ b.version = is ∙ sym at.begun in
    ap (content site) (sym (take-append-drop v commits)) ∙ fold-append after (start site) (take v commits) (drop v commits)
    ∙ ap (λ (c : Content). fold after c (drop v commits)) (ap (version site commits) same ∙ sym at.content)

begun-target : (v : ℕ) (c : Content) (work : Work) (told : Begun) (b : Build) (same : Bool) → (if same then (told, b) else opened_at v c work b).1.target ≡ b.target
begun-target v c work told b true = refl
begun-target v c work told b false = refl

pub begun_target : (v : ℕ) (c : Content) (b : Build) (work : Option Work) (target : Option ℕ) → (begin_in v c work target b).1.target ≡ b.target
begun_target v c b (Some work) target = begun-target v c (moved b.content v c work) _ b _
begun_target v c b None None = refl
begun_target v c b None (Some a) = begun-target v c (work_from b.content v c) _ b _

handed-target : (b : Build) (work : Work) (o : Option Obj) → (handed_by work o b).1.target ≡ b.target
handed-target b work None = refl
handed-target b work (Some o) = refl

pub handed_target : (b : Build) (work : Option Work) → (hand_in work b).1.target ≡ b.target
handed_target b None = refl
handed_target b (Some work) = handed-target b work (next_of work.last_handed (waiting b.content work.done))

kept-target : (b : Build) (o : Obj) (work : Work) (note : Option (Item × Value)) → (kept_by o work note b).1.target ≡ b.target
kept-target b o work None = refl
kept-target b o work (Some note) = refl

put-target : (b : Build) (o : Obj) (ns : List (Item × Value)) (work : Work) (waits : Bool) →
    (if waits then kept_by o work (stale b.content ns) b else (Unasked o, b)).1.target ≡ b.target
put-target b o ns work true = kept-target b o work (stale b.content ns)
put-target b o ns work false = refl

pub put_target : (b : Build) (o : Obj) (ns : List (Item × Value)) (work : Option Work) → (put_in o ns work b).1.target ≡ b.target
put_target b o ns None = refl
put_target b o ns (Some work) = put-target b o ns work (is_in (waiting b.content work.done) o)

joined-target : (b : Build) (work : Work) (waits us next : List Obj) → (joined_in work waits us next b).1.target ≡ b.target
joined-target b work (o ∷ os) us next = refl
joined-target b work [] [] next = refl
joined-target b work [] (u ∷ us) next = refl

pub joined_target : (b : Build) (work : Option Work) → (join_in work b).1.target ≡ b.target
joined_target b None = refl
joined_target b (Some work) = joined-target b work (waiting b.content work.done) (unjoined b.content work) (level b.content work)

-- other works with the same target
kept-by : (j : Journaled) (b new : Built) (x : Build) → IsWorkshop (record { journal = j; build = b }) → AreAt j.site j.commits x → x.target ≡ b.works.target →
    new ≡ with_works x b → IsWorkshop (record { journal = j; build = new })
kept-by j b new x is at same new_is = subst (λ (y : Built). IsWorkshop (record { journal = j; build = y })) (sym new_is) (record {
  works = at;
  pages = is.pages ∙ ap (pages_at j.site j.commits) (sym same);
})

pub keeps_begun : (j : Journaled) (b new : Built) → IsWorkshop (record { journal = j; build = b }) →
    new ≡ with_works (begin_in (length j.commits) (content j.site j.commits) b.works.work b.works.target b.works).1 b → IsWorkshop (record { journal = j; build = new })
keeps_begun j b new is new_is = kept-by j b new _ is (begun_at j.site j.commits b.works b.works.work b.works.target is.works) (begun_target (length j.commits) (content j.site j.commits) b.works b.works.work b.works.target) new_is

pub keeps_handed : (j : Journaled) (b new : Built) → IsWorkshop (record { journal = j; build = b }) → new ≡ with_works (hand_in b.works.work b.works).1 b →
    IsWorkshop (record { journal = j; build = new })
keeps_handed j b new is new_is = kept-by j b new _ is (handed_at j.site j.commits b.works b.works.work is.works refl) (handed_target b.works b.works.work) new_is

pub keeps_put : (j : Journaled) (b new : Built) (o : Obj) (ns : List (Item × Value)) → IsWorkshop (record { journal = j; build = b }) →
    new ≡ with_works (put_in o ns b.works.work b.works).1 b → IsWorkshop (record { journal = j; build = new })
keeps_put j b new o ns is new_is = kept-by j b new _ is (put_at j.site j.commits b.works o ns b.works.work is.works refl) (put_target b.works o ns b.works.work) new_is

pub keeps_joined : (j : Journaled) (b new : Built) → IsWorkshop (record { journal = j; build = b }) → new ≡ with_works (join_in b.works.work b.works).1 b →
    IsWorkshop (record { journal = j; build = new })
keeps_joined j b new is new_is = kept-by j b new _ is (joined_at j.site j.commits b.works b.works.work is.works refl) (joined_target b.works b.works.work) new_is

pub keeps_finished : (j : Journaled) (b new : Built) → IsWorkshop (record { journal = j; build = b }) → new ≡ closed (finish_in b.works.work b.works) b →
    IsWorkshop (record { journal = j; build = new })
keeps_finished j b new is new_is = subst (λ (y : Built). IsWorkshop (record { journal = j; build = y })) (sym new_is) (record {
  works = finished_at j.site j.commits b.works b.works.work is.works refl;
  pages = finished_pages j.site j.commits b b.works.work is.works refl is.pages;
})

-- works have the site's frame
pub frame_is : (site : Parts) (commits : List Commit) (b : Build) → AreAt site commits b → b.content.frame ≡ frame_of site
frame_is site commits b at = ap (λ (c : Content). c.frame) at.content ∙ content_frame site (take b.version commits)

-- what an answer to a put says of the frames, and of the build then
pub record AnswersPut (b new : Built) (o : Obj) (ns : List (Item × Value)) (frame : Frame) (answer : Put) : Type 0 where
  pub foreign : answer ≡ put.Foreign → frame ≡ b.works.content.frame → ⊥
  pub stays : (frame ≡ b.works.content.frame → ⊥) → new ≡ b
  pub ours : (answer ≡ put.Foreign → ⊥) → frame ≡ b.works.content.frame
  pub built : frame ≡ b.works.content.frame → new ≡ with_works (put_in o ns b.works.work b.works).1 b

pub keeps_answered : (j : Journaled) (b new : Built) (o : Obj) (ns : List (Item × Value)) (frame : Frame) (answer : Put) → IsWorkshop (record { journal = j; build = b }) →
    AnswersPut b new o ns frame answer → IsWorkshop (record { journal = j; build = new })
keeps_answered j b new o ns frame put.Foreign is says = subst (λ (x : Built). IsWorkshop (record { journal = j; build = x })) (sym (says.stays (says.foreign refl))) is
keeps_answered j b new o ns frame put.Unasked is says = keeps_put j b new o ns is (says.built (says.ours (λ e. cc)))
keeps_answered j b new o ns frame (put.Stale item noted present) is says = keeps_put j b new o ns is (says.built (says.ours (λ e. cc)))
keeps_answered j b new o ns frame (put.Kept waiting) is says = keeps_put j b new o ns is (says.built (says.ours (λ e. cc)))

pub put_step_of : (j : Journaled) (b new : Built) (log : List Bundle) (o : Obj) (ns : List (Item × Value)) (answer : Put) → AreAt j.site j.commits b.works →
    SaysPut o answer (put_in o ns b.works.work b.works).0 → new.works ≡ (put_in o ns b.works.work b.works).1 →
    SaysPut o answer (put_in o ns b.works.work (build_at j.site (begun_version b.works.work b.works.target) (press_of log (worked j b)))).0
    × (with_build (put_in o ns b.works.work (build_at j.site (begun_version b.works.work b.works.target) (press_of log (worked j b)))).1 (press_of log (worked j b))
    ≡ press_of log (worked j new))
put_step_of j b new log o ns answer at says is =
    let same = same_build j.site j.commits b.works at in (
      subst (λ (x : Build). SaysPut o answer (put_in o ns b.works.work x).0) (sym same) says,
      ap (λ (x : Build). with_build (put_in o ns b.works.work x).1 (press_of log (worked j b))) same ∙ ap (λ (x : Build). with_build x (press_of log (worked j b))) (sym is),
    )

-- a commit that is accepted is the machine's step
pub committed_step : (j new : Journaled) (b : Built) (commit : Commit) (v : ℕ) → v ≡ length new.commits → commit_refusal j.site j.limits j.commits commit ≡ None →
    new ≡ record j { commits = j.commits ++ commit ∷ [] } →
    IsStep (commit_step commit (commit_refusal j.site j.limits j.commits commit)) (worked j b) (machine.Told.Committed v) (worked new b)
committed_step j new b commit v is accepted new_is = λ log.
    let longer : length j.commits + 1 ≡ v = sym (is ∙ ap (λ (x : Journaled). length x.commits) new_is ∙ length-append j.commits (commit ∷ [])) in
    let after : Press = press_of log (worked (record j { commits = j.commits ++ commit ∷ [] }) b) in
    let pair : machine.Told → Press → machine.Told × Press = λ a x. (a, x) in
    ap (λ (why : Option Refusal). commit_step commit why (press_of log (worked j b))) accepted
    ∙ ap (λ (n : ℕ). pair (machine.Told.Committed n) after) longer
    ∙ ap (λ (x : Journaled). pair (machine.Told.Committed v) (press_of log (worked x b))) (sym new_is)

-- what holds of each answer, where two facts hold of an answer too
pub told_of : (r : Result ℕ CommitRefusal) (A B : Type 0) (P Q : ℕ → Type 0) → ((v : ℕ) → P v → A → B → Q v) → IfOk r P → OnOk r A → OnOk r B → IfOk r Q
told_of (Ok v) A B P Q each p a b = each v p a b
told_of (Err e) A B P Q each p a b = tt

-- the build, from what its callers see of the workshop
pub same_built : (j : Journaled) (b : Built) → IsWorkshop (record { journal = j; build = b }) → built_of (worked j b) ≡ b
same_built j b is = λ i. record { works = same_build j.site j.commits b.works is.works i; pages = sym is.pages i }

-- where a work isn't closed, the step of `finish` changes nothing
pub unclosed_step : (j : Journaled) (b : Built) (r : Result Closing Finish) → AreAt j.site j.commits b.works →
    IfErr r (λ finish. finish_told finish ≡ (finish_in b.works.work b.works).0) →
    IfErr r (λ finish. IsUnclosed finish × (closed (finish_in b.works.work b.works) b ≡ b)) →
    IfErr r (λ finish. IsUnclosed finish × IsStep (finish_step j.site b.works.work b.works.target) (worked j b) (machine.Told.Finished (finish_told finish)) (worked j b))
unclosed_step j b (Ok closing) at told stays = tt
unclosed_step j b (Err finish) at told stays = (
  stays.0,
  λ log. step_of machine.Told j b b log (λ (x : Build). (machine.Told.Finished (finish_in b.works.work x).0, (finish_in b.works.work x).1))
      (machine.Told.Finished (finish_told finish)) at (ap machine.Told.Finished told) (ap (λ (x : Built). x.works) (sym stays.1)),
)

-- a work that is closed leaves its version as the target's
closed-target : (b : Build) (work : Work) (waits us : List Obj) → waits ≡ [] → us ≡ [] → (finished_in work waits us b).1.target ≡ Some work.version
closed-target b work waits us calm joined = λ i. (finished_in work (calm i) (joined i) b).1.target

pub closed_target : (site : Parts) (commits : List Commit) (b : Built) (work : Option Work) (v : ℕ) → AreAt site commits b.works → b.works.work ≡ work → IsSome work →
    waiting_by b.works.content work ≡ [] → unjoined_by b.works.content work ≡ [] → v ≡ b.works.version → (finish_in work b.works).1.target ≡ Some v
closed_target site commits b None v at is busy calm joined same = absurd (true≢false (sym busy))
closed_target site commits b (Some work) v at is busy calm joined same =
    closed-target b.works work (waiting b.works.content work.done) (unjoined b.works.content work) calm joined
    ∙ ap Some (sym (open-version site commits b.works work at is) ∙ sym same)

-- between works all that is live at the target is known
known-live : (site : Parts) (commits : List Commit) (b : Build) (n : ℕ) (target : Option ℕ) → AreAt site commits b → b.work ≡ None → b.target ≡ target → n ≡ length (done_by b.content target None) →
    IfSome target (λ v. n ≡ length (live (version site commits v)))
known-live site commits b n None at idle is count = tt
known-live site commits b n (Some v) at idle is count =
    count ∙ ap (λ (c : Content). length (live c)) (at.content ∙ ap (version site commits) (at.begun ∙ (λ i. begun_version (idle i) (is i))))

pub known_live : (j : Journaled) (b : Built) (n : ℕ) → IsWorkshop (record { journal = j; build = b }) → b.works.work ≡ None → n ≡ length (done_in b.works) →
    IfSome b.works.target (λ v. n ≡ length (live (version j.site j.commits v)))
known_live j b n is idle count =
    known-live j.site j.commits b.works n b.works.target is.works idle refl (count ∙ ap (λ (o : Option Work). length (done_by b.works.content b.works.target o)) idle)
