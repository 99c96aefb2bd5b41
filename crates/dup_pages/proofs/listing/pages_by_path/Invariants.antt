use Rattle.std.proofs.Common.{◌≡◌, [], drop}
use Rattle.std.specs.List.{flat_map}
use Rattle.dup_model.specs.Pages.{pages_of}
use Rattle.dup_pages.specs.Listing.{with_pages}
use Rattle.dup_pages.proofs.listing.pages_by_path.Given as goal

abbrev pub invariant-loop-rule : goal.invariant-loop-rule
invariant-loop-rule l = with_pages l.made.entries (flat_map (pages_of l.content) (drop l.rule-index l.rule-items)) ≡ with_pages [] (flat_map (pages_of l.content) l.rule-items)
