-- Of the steps, only `begin` moves a build to another content.
use Rattle.std.proofs.Common.{◌≡◌, ℕ, Bool, true, false, cond, List, [], ◌∷◌, Option, Some, None, refl, sym, ap, ◌∙◌}
use Rattle.std.proofs.lemmas.Bool.{true≢false}
use Rattle.std.specs.Prelude.{◌==◌}
use Rattle.dup_names.specs.declared.object.Obj.{Obj}
use Rattle.dup_names.specs.declared.object.Item.{Item}
use Rattle.dup_template.specs.declared.value.Value.{Value}
use Rattle.dup_names.specs.Objects.{is_in}
use Rattle.dup_model.specs.Content.{Content}
use Rattle.dup_model.specs.Expansions.{stale}
use Rattle.dup_model.specs.Found.{waiting}
use Rattle.dup_machine.specs.Builds.{Build, begin_in, finish_in, finished_in, hand_in, handed_by, join_in, joined_in, kept_by, opened_at, put_in}
use Rattle.dup_machine.specs.World.{Begun, Work}
use Rattle.dup_machine.specs.World.Begun.{Nothing, Opened, Same}
use Rattle.dup_machine.specs.World.Told.{Unasked}
use Rattle.dup_machine.specs.Works.{level, moved, next_of, unjoined, work_from}
use Rattle.dup_build.specs.declared.answers.Put.{Put}
use Rattle.dup_build.specs.declared.answers.Put.TheVariants as answer
use Rattle.dup_build.specs.Built.{begun, finished, handed, joins, put}

of_hand : (b : Build) (w : Work) (o : Option Obj) → (handed_by w o b).1.content ≡ b.content
of_hand b w None = refl
of_hand b w (Some o) = refl

hand_by : (b : Build) (work : Option Work) → (hand_in work b).1.content ≡ b.content
hand_by b None = refl
hand_by b (Some w) = of_hand b w (next_of w.last_handed (waiting b.content w.done))

pub handed_content : (b : Build) → (handed b).1.content ≡ b.content
handed_content b = hand_by b b.work

of_kept : (b : Build) (o : Obj) (w : Work) (note : Option (Item × Value)) → (kept_by o w note b).1.content ≡ b.content
of_kept b o w None = refl
of_kept b o w (Some note) = refl

of_put : (b : Build) (o : Obj) (w : Work) (ns : List (Item × Value)) (t : Bool) → (cond t (kept_by o w (stale b.content ns) b) (Unasked o, b)).1.content ≡ b.content
of_put b o w ns true = of_kept b o w (stale b.content ns)
of_put b o w ns false = refl

put_by : (b : Build) (o : Obj) (ns : List (Item × Value)) (work : Option Work) → (put_in o ns work b).1.content ≡ b.content
put_by b o ns None = refl
put_by b o ns (Some w) = of_put b o w ns (is_in (waiting b.content w.done) o)

pub put_content : (b : Build) (o : Obj) (ns : List (Item × Value)) → (put o ns b).1.content ≡ b.content
put_content b o ns = put_by b o ns b.work

of_join : (b : Build) (w : Work) (ws us ls : List Obj) → (joined_in w ws us ls b).1.content ≡ b.content
of_join b w (o ∷ os) us ls = refl
of_join b w [] [] ls = refl
of_join b w [] (u ∷ us) ls = refl

join_by : (b : Build) (work : Option Work) → (join_in work b).1.content ≡ b.content
join_by b None = refl
join_by b (Some w) = of_join b w (waiting b.content w.done) (unjoined b.content w) (level b.content w)

pub joins_content : (b : Build) → (joins b).1.content ≡ b.content
joins_content b = join_by b b.work

of_finish : (b : Build) (w : Work) (ws us : List Obj) → (finished_in w ws us b).1.content ≡ b.content
of_finish b w (o ∷ os) us = refl
of_finish b w [] (u ∷ us) = refl
of_finish b w [] [] = refl

finish_by : (b : Build) (work : Option Work) → (finish_in work b).1.content ≡ b.content
finish_by b None = refl
finish_by b (Some w) = of_finish b w (waiting b.content w.done) (unjoined b.content w)

pub finished_content : (b : Build) → (finished b).1.content ≡ b.content
finished_content b = finish_by b b.work

-- a work that was opened is at the given content
abbrev is_opened : Begun → Bool
is_opened (Opened v n) = true
is_opened (Same v) = false
is_opened (Nothing v) = false

of_open : (v : ℕ) (c : Content) (b : Build) (same : Begun) → is_opened same ≡ false → (w : Work) (t : Bool) → is_opened (cond t (same, b) (opened_at v c w b)).0 ≡ true →
    (cond t (same, b) (opened_at v c w b)).1.content ≡ c
of_open v c b same isnt w true is = absurd (true≢false (sym is ∙ isnt))
of_open v c b same isnt w false is = refl

open_by : (v : ℕ) (c : Content) (b : Build) (work : Option Work) (target : Option ℕ) → is_opened (begin_in v c work target b).0 ≡ true → (begin_in v c work target b).1.content ≡ c
open_by v c b (Some w) target is = of_open v c b (Same w.version) refl (moved b.content v c w) (w.version == v) is
open_by v c b None None is = refl
open_by v c b None (Some a) is = of_open v c b (Nothing a) refl (work_from b.content v c) (a == v) is

pub opened_content : (v : ℕ) (c : Content) (b : Build) (n m : ℕ) → Opened n m ≡ (begun v c b).0 → (begun v c b).1.content ≡ c
opened_content v c b n m is = open_by v c b b.work b.target (ap is_opened (sym is))

-- and a build that was at the given content stays there
again_open : (v : ℕ) (c : Content) (b : Build) (same : Begun) (w : Work) (t : Bool) → b.content ≡ c → (cond t (same, b) (opened_at v c w b)).1.content ≡ c
again_open v c b same w true is = is
again_open v c b same w false is = refl

again_by : (v : ℕ) (c : Content) (b : Build) (work : Option Work) (target : Option ℕ) → b.content ≡ c → (begin_in v c work target b).1.content ≡ c
again_by v c b (Some w) target is = again_open v c b (Same w.version) (moved b.content v c w) (w.version == v) is
again_by v c b None None is = refl
again_by v c b None (Some a) is = again_open v c b (Nothing a) (work_from b.content v c) (a == v) is

pub again_content : (v : ℕ) (c : Content) (b : Build) → b.content ≡ c → (begun v c b).1.content ≡ c
again_content v c b is = again_by v c b b.work b.target is

-- what holds whether or not a put is foreign
abbrev is_foreign : Put → Bool
is_foreign answer.Foreign = true
is_foreign answer.Unasked = false
is_foreign (answer.Stale item noted present) = false
is_foreign (answer.Kept waiting) = false

pub either_told : (told : Put) (R : Type 0) → (told ≡ answer.Foreign → R) → ((told ≡ answer.Foreign → ⊥) → R) → R
either_told answer.Foreign R is isnt = is refl
either_told answer.Unasked R is isnt = isnt (λ e. true≢false (sym (ap is_foreign e)))
either_told (answer.Stale item noted present) R is isnt = isnt (λ e. true≢false (sym (ap is_foreign e)))
either_told (answer.Kept waiting) R is isnt = isnt (λ e. true≢false (sym (ap is_foreign e)))
