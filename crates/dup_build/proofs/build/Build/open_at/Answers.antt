use Rattle.std.proofs.Common.{length, ◌≡◌, Bool, true, false, cond, ◌&&◌, List, [], refl, sym, ap, ◌∙◌, subst}
use Rattle.std.specs.List.{All}
use Rattle.dup_names.specs.declared.value.Look.{Look}
use Rattle.dup_names.specs.Objects.{is_in}
use Rattle.dup_model.specs.Pages.{pages}
use Rattle.dup_model.specs.Touched.{without, touched, affected}
use Rattle.dup_walk.specs.OverReads.{HasReads}
use Rattle.dup_build.specs.Build.{IsBuild, work_in}
use Rattle.dup_build.specs.Paths.{IsCurrent, looks_in}
use Rattle.dup_build.specs.Targets.{pages_in}
use Rattle.dup_build.proofs.Builds.{closed_from, opened_done}
use Rattle.dup_build.specs.Spare.{AreTurned}
use Rattle.dup_build.proofs.Renewing.{turned_moved}
use Rattle.dup_build.proofs.Showing.{current_moved, current_opened}
use Rattle.dup_build.specs.Built.{Built, done_in, looked_in}
use Rattle.dup_build.specs.Stocked.{Stocked, waiting_in}
use Rattle.dup_model.specs.Found.{waiting}
use Rattle.dup_machine.specs.World.Begun.{Opened}
use Rattle.dup_build.proofs.Graphs.{reads_moved}
use Rattle.dup_build.proofs.build.Build.open_at.Goals as goal

pub move_to-requires-clause-stale : goal.move_to-requires-clause-stale
move_to-requires-clause-stale c = λ o h.
    subst (λ (b : Built). is_in (looked_in b.works) o ≡ true → is_in c.args.stale.now o ≡ affected b.works.content c.args.content.now o) (sym c.self.view_is) (c.requires.stale o)
    (ap (λ l. is_in l o) (sym c.self.invariant.is_looked) ∙ h)

pub invariant_of-self : goal.invariant_of-self
invariant_of-self c = subst (λ (s : Stocked). IsBuild (record c.self.inside { stock = s })) (sym c.in_err-move_to.ensures.err) c.self.invariant

pub invariant_of-self-2 : goal.invariant_of-self-2
invariant_of-self-2 c =
    let closed : c.self.inside.is_open ≡ false = closed_from c.self.inside.is_open (work_in c.self.inside) (ap (λ (b : Built). b.works.work) c.self.view_is ∙ c.requires.idle) in
    let frames : c.self.inside.stock.content.frame ≡ c.args.content.now.frame = ap (λ (b : Built). b.works.content.frame) c.self.view_is ∙ c.requires.frame in
    let looks : List Look = looks_in (pages_in c.self.inside.target) in
    let was : All (IsCurrent c.self.inside.stock.content c.self.inside.stock.looked []) looks =
    subst (λ (o : Bool). All (IsCurrent c.self.inside.stock.content c.self.inside.stock.looked (cond o c.self.inside.once [])) looks) closed c.self.invariant.shown in
    record {
      is_done = refl;
      is_looked = refl;
      planned = tt;
      turned = subst (λ (s : Stocked). AreTurned (c.self.inside.same_pages && c.args.same_pages) s.content (pages_in c.self.inside.target) c.self.inside.spare) (sym c.in_ok-move_to.ensures.ok)
          (turned_moved c.self.inside.stock.content c.args.content.now c.self.inside.same_pages c.args.same_pages (pages_in c.self.inside.target) c.self.inside.spare
          (λ same. ap (λ (b : Built). pages b.works.content) c.self.view_is ∙ c.requires.pages same) c.self.invariant.turned);
      rising = c.self.invariant.rising;
      shown = subst (λ (s : Stocked). All (IsCurrent s.content s.looked c.new.result) looks) (sym c.in_ok-move_to.ensures.ok)
          (current_opened c.args.content.now (without (affected c.self.inside.stock.content c.args.content.now) c.self.inside.stock.looked) c.new.result looks c.new.ensures
          (current_moved c.self.inside.stock.content c.args.content.now frames c.self.inside.stock.looked [] looks was));
      reads = subst (λ (s : Stocked). HasReads s.content s.done c.drop_all.new.graph) (sym c.in_ok-move_to.ensures.ok)
          (reads_moved c.self.inside.stock.content c.args.content.now
          (ap (λ (b : Built). b.works.content.frame) c.self.view_is ∙ c.requires.frame)
          c.self.inside.stock.done c.args.dropped.now c.self.inside.graph c.drop_all.new.graph c.self.invariant.reads
          (λ o h. subst (λ (b : Built). is_in (done_in b.works) o ≡ true → is_in c.args.dropped.now o ≡ touched b.works.content c.args.content.now o) (sym c.self.view_is) (c.requires.dropped o)
          (ap (λ l. is_in l o) (sym c.self.invariant.is_done) ∙ h))
          (λ o out. c.drop_all.ensures o (ap (λ l. is_in l o) (c.deref.ensures.value ∙ c.in_ok-gone.ensures) ∙ out)));
    }

pub move_to-requires-clause-pages : goal.move_to-requires-clause-pages
move_to-requires-clause-pages c = λ same. ap (λ (b : Built). pages b.works.content) c.self.view_is ∙ c.requires.pages same

pub returns-clause-told : goal.returns-clause-told
returns-clause-told c =
    ap (Opened c.args.version) (c.waiting-waiting.ensures ∙ ap (λ (s : Stocked). length (waiting_in s)) c.in_ok-move_to.ensures.ok
    ∙ ap (λ l. length (waiting c.args.content.now (without (touched c.self.inside.stock.content c.args.content.now) l))) c.self.invariant.is_done
    ∙ ap (λ (b : Built). length (waiting c.args.content.now (without (touched b.works.content c.args.content.now) (done_in b.works)))) c.self.view_is
    ∙ ap (λ l. length (waiting c.args.content.now l)) (opened_done c.args.version c.args.content.now c.args.self.now.works c.requires.idle))
