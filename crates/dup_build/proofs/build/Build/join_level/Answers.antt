use Rattle.std.proofs.Common.{◌≡◌, ◌++◌, Bool, true, cond, List, [], Some, None, length, sym, ap, ◌∙◌, subst}
use Rattle.dup_names.specs.Order.{obj_cmp}
use Rattle.dup_names.specs.Words.{in_order}
use Rattle.dup_names.specs.Objects.{is_in}
use Rattle.dup_model.specs.Skeletons.{embeds}
use Rattle.dup_model.specs.Touched.{without}
use Rattle.dup_machine.specs.Works.{more, with_joined}
use Rattle.std.specs.List.{All, list_any}
use Rattle.std.specs.Option.{option_map}
use Rattle.dup_names.specs.declared.object.Obj.{Obj}
use Rattle.dup_names.specs.declared.value.Look.{Look}
use Rattle.dup_walk.specs.OverReads.{HasReads}
use Rattle.dup_build.specs.Build.{IsBuild, as_built, work_in, works_in}
use Rattle.dup_build.specs.Built.{Built, done_by, level_by, looked_by, waiting_by}
use Rattle.dup_build.specs.Paths.{IsCurrent, looks_in}
use Rattle.dup_build.specs.Spare.{AreTurned}
use Rattle.dup_build.specs.Stocked.{Stocked, level_in, waiting_in}
use Rattle.dup_build.specs.Targets.{pages_in}
use Rattle.dup_build.proofs.Builds.{open_from}
use Rattle.dup_build.proofs.Showing.{current_joined}
use Rattle.dup_sets.proofs.Sets.{lacking_all, lacking_apart, all_back}
use Rattle.dup_build.proofs.build.Build.join_level.Goals as goal

pub add_all-requires : goal.add_all-requires
add_all-requires c =
    let fresh : c.deref.result.now ≡ without (is_in c.self.inside.once) c.args.level.now = c.deref.ensures.value ∙ c.in_ok-fresh.ensures in
    λ x h. lacking_apart c.args.level.now c.self.inside.once x (ap (λ l. is_in l x) (sym fresh) ∙ h)

pub join-requires-clause-level : goal.join-requires-clause-level
join-requires-clause-level c =
    let open_is : c.self.inside.is_open ≡ true = open_from c.self.inside.is_open (work_in c.self.inside) c.args.self.now.works.work (ap (λ (b : Built). b.works.work) c.self.view_is) c.requires.busy in
    c.requires.level ∙ ap (λ (b : Built). level_by b.works.content b.works.work) (sym c.self.view_is)
    ∙ ap (λ (o : Bool). level_by c.self.inside.stock.content (cond o (Some (work_in c.self.inside)) None)) open_is

pub returns-in_default-clause-ok : goal.returns-in_default-clause-ok
returns-in_default-clause-ok c =
    let open_is : c.self.inside.is_open ≡ true = open_from c.self.inside.is_open (work_in c.self.inside) c.args.self.now.works.work (ap (λ (b : Built). b.works.work) c.self.view_is) c.requires.busy in
    let fresh : c.deref.result.now ≡ without (is_in c.self.inside.once) c.args.level.now = c.deref.ensures.value ∙ c.in_ok-fresh.ensures in
    let once : c.add_all.new.self ≡ in_order obj_cmp (c.args.level.now ++ c.self.inside.once) =
    c.in_ok-add_all.ensures.ok ∙ ap (λ l. in_order obj_cmp (l ++ c.self.inside.once)) fresh ∙ lacking_all c.args.level.now c.self.inside.once in
    let joined : c.saturating_add-self-inside.result ≡ more c.self.inside.joined (length c.args.level.now) = c.saturating_add-self-inside.ensures in
    (λ i. record {
      works = record (works_in c.self.inside) {
        content = (c.in_default.ensures.ok i).content;
        work = cond (open_is i) (Some (record (work_in c.self.inside) { done = (c.in_default.ensures.ok i).done; looked = (c.in_default.ensures.ok i).looked; once = once i; joined = joined i })) None;
      };
      pages = (as_built c.self.inside).pages;
    })
    ∙ sym (λ i. record {
      works = record (works_in c.self.inside) { work = option_map (with_joined c.args.level.now) (cond (open_is i) (Some (work_in c.self.inside)) None) };
      pages = (as_built c.self.inside).pages;
    })
    ∙ ap (λ (b : Built). let v : Built = record { works = record b.works { work = option_map (with_joined c.args.level.now) b.works.work }; pages = b.pages } in v) c.self.view_is

pub returns-clause-err : goal.returns-clause-err
returns-clause-err c =
    let fresh : c.deref.result.now ≡ without (is_in c.self.inside.once) c.args.level.now = c.deref.ensures.value ∙ c.in_ok-fresh.ensures in
    let once : c.remove_all.new.self ≡ c.self.inside.once =
    c.remove_all.ensures ∙ ap (λ l. without (is_in l) c.add_all.new.self) (c.deref-2.ensures.value ∙ sym c.deref.ensures.value) ∙ ap (without (is_in c.deref.result.now)) c.in_ok-add_all.ensures.ok
    ∙ all_back c.deref.result.now c.self.inside.once c.len.ensures.rising (λ x h. lacking_apart c.args.level.now c.self.inside.once x (ap (λ l. is_in l x) (sym fresh) ∙ h)) in
    (λ i. record {
      works = record (works_in c.self.inside) {
        content = (c.in-Err.ensures.err i).content;
        work = cond c.self.inside.is_open (Some (record (work_in c.self.inside) { done = (c.in-Err.ensures.err i).done; looked = (c.in-Err.ensures.err i).looked; once = once i })) None;
      };
      pages = (as_built c.self.inside).pages;
    })
    ∙ c.self.view_is

pub invariant_of-self : goal.invariant_of-self
invariant_of-self c = subst (λ (os : List Obj). IsBuild (record c.self.inside { once = os })) (sym c.in_err-add_all.ensures.err) c.self.invariant

pub invariant_of-self-in_default : goal.invariant_of-self-in_default
invariant_of-self-in_default c =
    let open_is : c.self.inside.is_open ≡ true = open_from c.self.inside.is_open (work_in c.self.inside) c.args.self.now.works.work (ap (λ (b : Built). b.works.work) c.self.view_is) c.requires.busy in
    let fresh : c.deref.result.now ≡ without (is_in c.self.inside.once) c.args.level.now = c.deref.ensures.value ∙ c.in_ok-fresh.ensures in
    let once : c.add_all.new.self ≡ in_order obj_cmp (c.args.level.now ++ c.self.inside.once) =
    c.in_ok-add_all.ensures.ok ∙ ap (λ l. in_order obj_cmp (l ++ c.self.inside.once)) fresh ∙ lacking_all c.args.level.now c.self.inside.once in
    let after = record c.self.inside { stock = c.join.new.self; once = c.add_all.new.self; joined = c.saturating_add-self-inside.result } in
    let looks : List Look = looks_in (pages_in c.self.inside.target) in
    let was : All (IsCurrent c.self.inside.stock.content c.self.inside.stock.looked c.self.inside.once) looks =
    subst (λ (o : Bool). All (IsCurrent c.self.inside.stock.content c.self.inside.stock.looked (cond o c.self.inside.once [])) looks) open_is c.self.invariant.shown in
    let now : All (IsCurrent c.self.inside.stock.content (in_order obj_cmp (c.args.level.now ++ c.self.inside.stock.looked)) c.add_all.new.self) looks =
    subst (λ (os : List Obj). All (IsCurrent c.self.inside.stock.content (in_order obj_cmp (c.args.level.now ++ c.self.inside.stock.looked)) os) looks) (sym once)
    (current_joined c.self.inside.stock.content c.self.inside.stock.looked c.self.inside.once c.args.level.now looks was) in
    record {
      is_done = ap (λ (o : Bool). done_by c.join.new.self.content (option_map (λ t. t.version) c.self.inside.target) (cond o (Some (work_in after)) None)) (sym open_is);
      is_looked = ap (λ (o : Bool). looked_by c.join.new.self.content (option_map (λ t. t.version) c.self.inside.target) (cond o (Some (work_in after)) None)) (sym open_is);
      reads = subst (λ (s : Stocked). HasReads s.content s.done c.self.inside.graph) (sym c.in_default.ensures.ok) c.self.invariant.reads;
      planned = c.plan.ensures;
      turned = subst (λ (s : Stocked). AreTurned c.self.inside.same_pages s.content (pages_in c.self.inside.target) c.self.inside.spare) (sym c.in_default.ensures.ok) c.self.invariant.turned;
      rising = c.self.invariant.rising;
      shown = subst (λ (s : Stocked). All (IsCurrent s.content s.looked (cond c.self.inside.is_open c.add_all.new.self [])) looks) (sym c.in_default.ensures.ok)
          (subst (λ (o : Bool). All (IsCurrent c.self.inside.stock.content (in_order obj_cmp (c.args.level.now ++ c.self.inside.stock.looked)) (cond o c.add_all.new.self [])) looks) (sym open_is) now);
    }

pub invariant_of-self-2 : goal.invariant_of-self-2
invariant_of-self-2 c =
    let fresh : c.deref.result.now ≡ without (is_in c.self.inside.once) c.args.level.now = c.deref.ensures.value ∙ c.in_ok-fresh.ensures in
    let once : c.remove_all.new.self ≡ c.self.inside.once =
    c.remove_all.ensures ∙ ap (λ l. without (is_in l) c.add_all.new.self) (c.deref-2.ensures.value ∙ sym c.deref.ensures.value) ∙ ap (without (is_in c.deref.result.now)) c.in_ok-add_all.ensures.ok
    ∙ all_back c.deref.result.now c.self.inside.once c.len.ensures.rising (λ x h. lacking_apart c.args.level.now c.self.inside.once x (ap (λ l. is_in l x) (sym fresh) ∙ h)) in
    subst (λ (s : Stocked). IsBuild (record c.self.inside { stock = s; once = c.remove_all.new.self })) (sym c.in-Err.ensures.err)
    (subst (λ (os : List Obj). IsBuild (record c.self.inside { once = os })) (sym once) c.self.invariant)

pub plan-requires-clause-reads : goal.plan-requires-clause-reads
plan-requires-clause-reads c = subst (λ (s : Stocked). HasReads s.content s.done c.self.inside.graph) (sym c.in_default.ensures.ok) c.self.invariant.reads

pub plan-requires-clause-above : goal.plan-requires-clause-above
plan-requires-clause-above c = subst (λ (s : Stocked). (o : Obj) → is_in (level_in c.join.new.self) o ≡ true → list_any (is_in (embeds s.content o)) c.args.level.now ≡ true) (sym c.in_default.ensures.ok) c.in_default.ensures.above

pub plan-requires-clause-calm : goal.plan-requires-clause-calm
plan-requires-clause-calm c =
    let open_is : c.self.inside.is_open ≡ true = open_from c.self.inside.is_open (work_in c.self.inside) c.args.self.now.works.work (ap (λ (b : Built). b.works.work) c.self.view_is) c.requires.busy in
    ap waiting_in c.in_default.ensures.ok
    ∙ ap (λ (o : Bool). waiting_by c.self.inside.stock.content (cond o (Some (work_in c.self.inside)) None)) (sym open_is)
    ∙ ap (λ (b : Built). waiting_by b.works.content b.works.work) c.self.view_is ∙ c.requires.calm
