-- The steps of a build with an open work.
use Rattle.std.proofs.Common.{◌≡◌, ℕ, Bool, true, false, cond, List, [], ◌∷◌, ◌<◌, arith, Option, Some, None, length, refl, sym, ap, ◌∙◌}
use Rattle.std.specs.Prelude.{IsSome}
use Rattle.std.specs.Option.{option_map}
use Rattle.std.proofs.lemmas.Option.{none-some}
use Rattle.std.proofs.lemmas.Bool.{true≢false}
use Rattle.dup_names.specs.declared.object.Obj.{Obj}
use Rattle.dup_names.specs.declared.object.Item.{Item}
use Rattle.dup_template.specs.declared.value.Value.{Value}
use Rattle.dup_names.specs.Objects.{is_in}
use Rattle.dup_machine.specs.Builds.{Build, finish_in, finished_in, hand_in, handed_by, join_in, joined_in, kept_by, put_in}
use Rattle.dup_machine.specs.World.{Work, Ended, Joined}
use Rattle.dup_machine.specs.World.Told.{Kept, Unasked}
use Rattle.dup_model.specs.Found.{waiting}
use Rattle.dup_machine.specs.Works.{level, unjoined, next_of, with_done, with_joined}
use Rattle.dup_model.specs.Expansions.{stale}
use Rattle.dup_model.specs.Content.{Content}
use Rattle.dup_model.specs.Touched.{touched, without}
use Rattle.dup_build.specs.Built.{done_by, done_in, handed, next_work_by, put, waits_by, waiting_by, finished, joins}

module _ (b : Build) (w : Work) (open_is : b.work ≡ Some w) where
  pub handed_next : (o : Option Obj) → next_of w.last_handed (waiting b.content w.done) ≡ o → handed b ≡ handed_by w o b
  handed_next o next = ap (λ x. hand_in x b) open_is ∙ ap (λ x. handed_by w x b) next

  module _ (o : Obj) (notes : List (Item × Value)) where
    pub put_unasked : is_in (waiting b.content w.done) o ≡ false → put o notes b ≡ (Unasked o, b)
    put_unasked out = ap (λ x. put_in o notes x b) open_is ∙ ap (λ x. cond x (kept_by o w (stale b.content notes) b) (Unasked o, b)) out

    pub waits_open : waits_by b.content b.work o ≡ is_in (waiting b.content w.done) o
    waits_open = ap (λ x. waits_by b.content x o) open_is

  -- `finish`
  pub finished_open : finished b ≡ finished_in w (waiting b.content w.done) (unjoined b.content w) b
  finished_open = ap (λ x. finish_in x b) open_is

  -- `join`
  pub joins_open : joins b ≡ joined_in w (waiting b.content w.done) (unjoined b.content w) (level b.content w) b
  joins_open = ap (λ x. join_in x b) open_is

pub open_from : (b : Bool) (w : Work) (o : Option Work) → cond b (Some w) None ≡ o → IsSome o → b ≡ true
open_from true w o is some = refl
open_from false w None is some = absurd (true≢false (sym some))
open_from false w (Some v) is some = absurd (none-some v is)

pub closed_from : (b : Bool) (w : Work) → cond b (Some w) None ≡ None → b ≡ false
closed_from true w is = absurd (none-some w (sym is))
closed_from false w is = refl

pub some_wait : (b : Build) (w : Work) (ws us : List Obj) → 0 < length ws → finished_in w ws us b ≡ (Ended.Waiting (length ws), b)
some_wait b w [] us some = absurd (omega (arith, some))
some_wait b w (o ∷ os) us some = refl

pub some_unjoined : (b : Build) (w : Work) (ws us : List Obj) → ws ≡ [] → 0 < length us → finished_in w ws us b ≡ (Ended.Unjoined (length us), b)
some_unjoined b w ws [] none some = absurd (omega (arith, some))
some_unjoined b w ws (u ∷ us) none some = ap (λ l. finished_in w l (u ∷ us) b) none

pub no_one : (os : List Obj) → length os ≡ 0 → os ≡ []
no_one [] is = refl
no_one (o ∷ os) is = absurd (omega (arith, is))

pub join_waits : (b : Build) (w : Work) (ws us ls : List Obj) → 0 < length ws → joined_in w ws us ls b ≡ (Joined.Waiting (length ws), b)
join_waits b w [] us ls some = absurd (omega (arith, some))
join_waits b w (o ∷ os) us ls some = refl

pub join_done : (b : Build) (w : Work) (ws us ls : List Obj) → ws ≡ [] → us ≡ [] → joined_in w ws us ls b ≡ (Joined.Done, b)
join_done b w ws us ls calm none = λ i. joined_in w (calm i) (none i) ls b

pub join_some : (b : Build) (w : Work) (ws us ls : List Obj) → ws ≡ [] → 0 < length us →
    joined_in w ws us ls b ≡ (Joined.Level (length ls), record b { work = Some (with_joined ls w) })
join_some b w ws [] ls calm some = absurd (omega (arith, some))
join_some b w ws (u ∷ us) ls calm some = ap (λ l. joined_in w l (u ∷ us) ls b) calm

-- an expansion that is asked for and agrees is kept
pub put_kept : (b : Build) (o : Obj) (notes : List (Item × Value)) (work : Option Work) → b.work ≡ work → waits_by b.content work o ≡ true → stale b.content notes ≡ None →
    (put o notes b).0 ≡ Kept o (length (waiting_by b.content (option_map (with_done o) work)))
put_kept b o notes None is waits agrees = absurd (true≢false (sym waits))
put_kept b o notes (Some w) is waits agrees =
    ap (λ x. (put_in o notes x b).0) is ∙ ap (λ x. (cond x (kept_by o w (stale b.content notes) b) (Unasked o, b)).0) waits ∙ ap (λ x. (kept_by o w x b).0) agrees

-- what is done in the work that is opened where none is open
pub opened_done : (v : ℕ) (c : Content) (b : Build) → b.work ≡ None → without (touched b.content c) (done_in b) ≡ (next_work_by v b.content c b.work b.target).done
opened_done v c b idle = ap (λ (w : Option Work). without (touched b.content c) (done_by b.content b.target w)) idle ∙ by_target b.target ∙ ap (λ (w : Option Work). (next_work_by v b.content c w b.target).done) (sym idle)
  where
    by_target : (t : Option ℕ) → without (touched b.content c) (done_by b.content t None) ≡ (next_work_by v b.content c None t).done
    by_target None = refl
    by_target (Some t) = refl
