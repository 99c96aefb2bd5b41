use Rattle.std.proofs.Common.{not, ◌&&◌, sym, ap, ◌∙◌}
use Rattle.dup_model.specs.Bundles.{changed_paths}
use Rattle.dup_model.specs.Editions.{edition, has}
use Rattle.dup_model.proofs.Push.{edition_snoc}
use Rattle.dup_bundle.proofs.Exact.{published_exact}
use Rattle.dup_bundle.proofs.changed.Changed.publish.Goals as goal

pub returns : goal.returns
returns c = λ e t commits paths record_is was.
    published_exact (edition e.log) t.pages t.version commits paths c.args.rec.now c.puts.result.now c.drops.result.now c.self.inside.paths.keys _ record_is c.puts.ensures c.drops.ensures
    (c.self.view_is ∙ was) c.take_paths.ensures.order (λ q. c.take_paths.ensures.has q ∙ ap (λ x. not (has c.drops.result.now q) && x) (c.take_pages.ensures.has q))
    ∙ ap (λ e'. changed_paths e' t.pages) (sym (edition_snoc e.log c.args.rec.now))
