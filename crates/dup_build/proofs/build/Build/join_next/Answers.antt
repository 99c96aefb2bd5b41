use Rattle.std.proofs.Common.{◌≡◌, ◌<◌, Bool, true, cond, List, [], Option, Some, None, length, sym, ap, subst, ◌∙◌}
use Rattle.std.specs.Option.{option_map}
use Rattle.dup_names.specs.declared.object.Obj.{Obj}
use Rattle.dup_machine.specs.Builds.{Build}
use Rattle.dup_machine.specs.World.{Joined, Work}
use Rattle.dup_model.specs.Found.{waiting}
use Rattle.dup_machine.specs.Works.{level, unjoined, with_joined}
use Rattle.dup_build.specs.Build.{work_in}
use Rattle.dup_build.specs.Built.{Built, joins, level_by, unjoined_by, waiting_by, with_works}
use Rattle.dup_build.proofs.Builds.{joins_open, join_some, open_from}
use Rattle.dup_build.proofs.build.Build.join_next.Goals as goal

pub join_level-requires-clause-level : goal.join_level-requires-clause-level
join_level-requires-clause-level g c =
    let open_is : c.self.inside.is_open ≡ true = open_from c.self.inside.is_open (work_in c.self.inside) c.args.self.now.works.work (ap (λ (b : Built). b.works.work) c.self.view_is) c.requires.busy in
    let work_is : c.args.self.now.works.work ≡ Some (work_in c.self.inside) = ap (λ (b : Built). b.works.work) (sym c.self.view_is) ∙ ap (λ (o : Bool). cond o (Some (work_in c.self.inside)) None) open_is in
    let calm : waiting c.args.self.now.works.content c.self.inside.stock.done ≡ [] = ap (waiting_by c.args.self.now.works.content) (sym work_is) ∙ c.requires.calm in
    let left : 0 < length (unjoined c.args.self.now.works.content (work_in c.self.inside)) = subst (λ (w : Option Work). 0 < length (unjoined_by c.args.self.now.works.content w)) work_is c.requires.left in
    let ls : List Obj = level c.args.self.now.works.content (work_in c.self.inside) in
    let step : joins c.args.self.now.works ≡ (Joined.Level (length ls), record c.args.self.now.works { work = Some (with_joined ls (work_in c.self.inside)) }) =
    joins_open c.args.self.now.works (work_in c.self.inside) work_is
    ∙ join_some c.args.self.now.works (work_in c.self.inside) (waiting c.args.self.now.works.content c.self.inside.stock.done) (unjoined c.args.self.now.works.content (work_in c.self.inside)) ls calm left in
    let made : c.in_ok-level.level.items ≡ ls = c.in_ok-level.ensures ∙ ap (λ (b : Built). level b.works.content (work_in c.self.inside)) c.self.view_is in
    c.deref-2.ensures.value ∙ made ∙ ap (level_by c.args.self.now.works.content) (sym work_is)

pub returns-clause-told : goal.returns-clause-told
returns-clause-told g c =
    let open_is : c.self.inside.is_open ≡ true = open_from c.self.inside.is_open (work_in c.self.inside) c.args.self.now.works.work (ap (λ (b : Built). b.works.work) c.self.view_is) c.requires.busy in
    let work_is : c.args.self.now.works.work ≡ Some (work_in c.self.inside) = ap (λ (b : Built). b.works.work) (sym c.self.view_is) ∙ ap (λ (o : Bool). cond o (Some (work_in c.self.inside)) None) open_is in
    let calm : waiting c.args.self.now.works.content c.self.inside.stock.done ≡ [] = ap (waiting_by c.args.self.now.works.content) (sym work_is) ∙ c.requires.calm in
    let left : 0 < length (unjoined c.args.self.now.works.content (work_in c.self.inside)) = subst (λ (w : Option Work). 0 < length (unjoined_by c.args.self.now.works.content w)) work_is c.requires.left in
    let ls : List Obj = level c.args.self.now.works.content (work_in c.self.inside) in
    let step : joins c.args.self.now.works ≡ (Joined.Level (length ls), record c.args.self.now.works { work = Some (with_joined ls (work_in c.self.inside)) }) =
    joins_open c.args.self.now.works (work_in c.self.inside) work_is
    ∙ join_some c.args.self.now.works (work_in c.self.inside) (waiting c.args.self.now.works.content c.self.inside.stock.done) (unjoined c.args.self.now.works.content (work_in c.self.inside)) ls calm left in
    let made : c.in_ok-level.level.items ≡ ls = c.in_ok-level.ensures ∙ ap (λ (b : Built). level b.works.content (work_in c.self.inside)) c.self.view_is in
    ap (λ l. Joined.Level (length l)) (c.as_slice.ensures.value ∙ made) ∙ sym (ap (λ (x : Joined × Build). x.0) step)

pub returns-clause-build : goal.returns-clause-build
returns-clause-build g c =
    let open_is : c.self.inside.is_open ≡ true = open_from c.self.inside.is_open (work_in c.self.inside) c.args.self.now.works.work (ap (λ (b : Built). b.works.work) c.self.view_is) c.requires.busy in
    let work_is : c.args.self.now.works.work ≡ Some (work_in c.self.inside) = ap (λ (b : Built). b.works.work) (sym c.self.view_is) ∙ ap (λ (o : Bool). cond o (Some (work_in c.self.inside)) None) open_is in
    let calm : waiting c.args.self.now.works.content c.self.inside.stock.done ≡ [] = ap (waiting_by c.args.self.now.works.content) (sym work_is) ∙ c.requires.calm in
    let left : 0 < length (unjoined c.args.self.now.works.content (work_in c.self.inside)) = subst (λ (w : Option Work). 0 < length (unjoined_by c.args.self.now.works.content w)) work_is c.requires.left in
    let ls : List Obj = level c.args.self.now.works.content (work_in c.self.inside) in
    let step : joins c.args.self.now.works ≡ (Joined.Level (length ls), record c.args.self.now.works { work = Some (with_joined ls (work_in c.self.inside)) }) =
    joins_open c.args.self.now.works (work_in c.self.inside) work_is
    ∙ join_some c.args.self.now.works (work_in c.self.inside) (waiting c.args.self.now.works.content c.self.inside.stock.done) (unjoined c.args.self.now.works.content (work_in c.self.inside)) ls calm left in
    let made : c.in_ok-level.level.items ≡ ls = c.in_ok-level.ensures ∙ ap (λ (b : Built). level b.works.content (work_in c.self.inside)) c.self.view_is in
    c.in_ok-join_level.ensures.ok
    ∙ (λ i. with_works (record c.args.self.now.works { work = option_map (with_joined ((c.deref-2.ensures.value ∙ made) i)) (work_is i) }) c.args.self.now)
    ∙ sym (ap (λ (x : Joined × Build). with_works x.1 c.args.self.now) step)
