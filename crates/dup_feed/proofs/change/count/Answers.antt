use Rattle.std.proofs.Common.{◌∙◌, sym, ap}
use Rattle.dup_feed.specs.Feed.{count_of}
use Rattle.dup_feed.proofs.Members.{count_entries}
use Rattle.dup_feed.proofs.change.count.Goals as goal

pub returns-in-Some : goal.returns-in-Some
returns-in-Some c = c.len.ensures.len ∙ sym (count_entries c.in-Some.members.now.entries) ∙ ap count_of c.in-Some.ensures
