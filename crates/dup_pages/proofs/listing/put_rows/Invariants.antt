use Rattle.std.proofs.Common.{◌≡◌, drop}
use Rattle.dup_pages.specs.Listing.{pages_for, with_pages}
use Rattle.dup_pages.proofs.listing.put_rows.Given as goal

abbrev pub invariant-loop-key : goal.invariant-loop-key
invariant-loop-key l = with_pages l.made.entries (pages_for l.prefix l.template (drop l.key-index l.keys)) ≡ with_pages l.initial.made.entries (pages_for l.prefix l.template l.keys)
