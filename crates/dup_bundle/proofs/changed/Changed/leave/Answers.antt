use Rattle.std.proofs.Common.{not, ◌&&◌, ◌∙◌, ap, sym}
use Rattle.std.specs.List.{filter}
use Rattle.dup_names.specs.Order.{text_cmp}
use Rattle.std.proofs.lemmas.List.Kept.{IsStrictlySortedBy-filter}
use Rattle.dup_model.specs.Editions.{has}
use Rattle.dup_model.proofs.Reached.{has_filter}
use Rattle.dup_bundle.proofs.Paths.{same_members}
use Rattle.dup_bundle.proofs.Ordered.{swap}
use Rattle.dup_bundle.proofs.changed.Changed.leave.Goals as goal

pub returns : goal.returns
returns c = same_members _ (filter (λ q. not (has c.args.gone.now.keys q)) c.args.self.now) c.take_set.ensures.order
    (IsStrictlySortedBy-filter text_cmp (λ q. not (has c.args.gone.now.keys q)) c.args.self.now c.requires)
    (λ q. c.take_set.ensures.has q
    ∙ swap (not (has c.args.gone.now.keys q)) (has c.self.inside.paths.keys q)
    ∙ ap (λ l. has l q && not (has c.args.gone.now.keys q)) c.self.view_is
    ∙ sym (has_filter (λ q. not (has c.args.gone.now.keys q)) c.args.self.now q))
