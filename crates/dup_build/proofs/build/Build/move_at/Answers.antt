use Rattle.std.proofs.Common.{◌≡◌, Bool, true, cond, ◌&&◌, Some, None, sym, ap, ◌∙◌, subst}
use Rattle.std.specs.List.{All}
use Rattle.std.specs.Option.{option_map}
use Rattle.dup_names.specs.Objects.{is_in}
use Rattle.dup_model.specs.Pages.{pages}
use Rattle.dup_model.specs.Touched.{touched, affected}
use Rattle.dup_walk.specs.OverReads.{HasReads}
use Rattle.dup_build.specs.Build.{IsBuild, once_in, work_in}
use Rattle.dup_build.specs.Paths.{IsCurrent, looks_in}
use Rattle.dup_build.specs.Targets.{pages_in}
use Rattle.dup_build.specs.Spare.{AreTurned}
use Rattle.dup_build.proofs.Renewing.{turned_moved}
use Rattle.dup_build.proofs.Showing.{current_moved}
use Rattle.dup_build.specs.Built.{Built, done_by, done_in, looked_by, looked_in}
use Rattle.dup_build.specs.Stocked.{Stocked}
use Rattle.dup_build.proofs.Builds.{open_from}
use Rattle.dup_build.proofs.Graphs.{reads_moved}
use Rattle.dup_build.proofs.build.Build.move_at.Goals as goal

pub move_to-requires-clause-stale : goal.move_to-requires-clause-stale
move_to-requires-clause-stale c = λ o h.
    subst (λ (b : Built). is_in (looked_in b.works) o ≡ true → is_in c.args.stale.now o ≡ affected b.works.content c.args.content.now o) (sym c.self.view_is) (c.requires.stale o)
    (ap (λ l. is_in l o) (sym c.self.invariant.is_looked) ∙ h)

pub invariant_of-self : goal.invariant_of-self
invariant_of-self c = subst (λ (s : Stocked). IsBuild (record c.self.inside { stock = s })) (sym c.in_err-move_to.ensures.err) c.self.invariant

pub invariant_of-self-2 : goal.invariant_of-self-2
invariant_of-self-2 c =
    let open_is : c.self.inside.is_open ≡ true = open_from c.self.inside.is_open (work_in c.self.inside) c.args.self.now.works.work (ap (λ (b : Built). b.works.work) c.self.view_is) c.requires.busy in
    let after = record c.self.inside { version = c.args.version; stock = c.move_to.new.self; graph = c.drop_all.new.graph; last_handed = None } in
    record {
      is_done = ap (λ (o : Bool). done_by c.move_to.new.self.content (option_map (λ t. t.version) c.self.inside.target) (cond o (Some (work_in after)) None)) (sym open_is);
      is_looked = ap (λ (o : Bool). looked_by c.move_to.new.self.content (option_map (λ t. t.version) c.self.inside.target) (cond o (Some (work_in after)) None)) (sym open_is);
      planned = tt;
      turned = subst (λ (s : Stocked). AreTurned (c.self.inside.same_pages && c.args.same_pages) s.content (pages_in c.self.inside.target) c.self.inside.spare) (sym c.in_ok-move_to.ensures.ok)
          (turned_moved c.self.inside.stock.content c.args.content.now c.self.inside.same_pages c.args.same_pages (pages_in c.self.inside.target) c.self.inside.spare
          (λ same. ap (λ (b : Built). pages b.works.content) c.self.view_is ∙ c.requires.pages same) c.self.invariant.turned);
      rising = c.self.invariant.rising;
      shown = subst (λ (s : Stocked). All (IsCurrent s.content s.looked (once_in c.self.inside)) (looks_in (pages_in c.self.inside.target))) (sym c.in_ok-move_to.ensures.ok)
          (current_moved c.self.inside.stock.content c.args.content.now (ap (λ (b : Built). b.works.content.frame) c.self.view_is ∙ c.requires.frame) c.self.inside.stock.looked (once_in c.self.inside)
          (looks_in (pages_in c.self.inside.target)) c.self.invariant.shown);
      reads = subst (λ (s : Stocked). HasReads s.content s.done c.drop_all.new.graph) (sym c.in_ok-move_to.ensures.ok)
          (reads_moved c.self.inside.stock.content c.args.content.now
          (ap (λ (b : Built). b.works.content.frame) c.self.view_is ∙ c.requires.frame)
          c.self.inside.stock.done c.args.dropped.now c.self.inside.graph c.drop_all.new.graph c.self.invariant.reads
          (λ o h. subst (λ (b : Built). is_in (done_in b.works) o ≡ true → is_in c.args.dropped.now o ≡ touched b.works.content c.args.content.now o) (sym c.self.view_is) (c.requires.dropped o)
          (ap (λ l. is_in l o) (sym c.self.invariant.is_done) ∙ h))
          (λ o out. c.drop_all.ensures o (ap (λ l. is_in l o) (c.deref.ensures.value ∙ c.in_ok-gone.ensures) ∙ out)));
    }

pub move_to-requires-clause-pages : goal.move_to-requires-clause-pages
move_to-requires-clause-pages c = λ same. ap (λ (b : Built). pages b.works.content) c.self.view_is ∙ c.requires.pages same
