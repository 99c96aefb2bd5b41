use Rattle.std.proofs.Common.{ap, ◌∙◌}
use Rattle.dup_cache.specs.Entries.{has_path}
use Rattle.dup_cache.specs.Kept.{pages_of}
use Rattle.dup_cache.proofs.Tables.{has_pages}
use Rattle.dup_cache.proofs.entries.has.Goals as goal

pub returns : goal.returns
returns c =
    c.contains.ensures
    ∙ has_pages c.of.result.path c.args.entries.now.entries c.requires
    ∙ ap (has_path (pages_of c.args.entries.now.entries)) c.of.ensures
