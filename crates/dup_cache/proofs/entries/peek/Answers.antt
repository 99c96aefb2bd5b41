use Rattle.std.proofs.Common.{ap, ◌∙◌}
use Rattle.std.specs.Prelude.{bytes_eq}
use Rattle.std.specs.List.{find}
use Rattle.std.specs.Option.{option_map}
use Rattle.dup_cache.specs.Kept.{pages_of}
use Rattle.dup_cache.proofs.Tables.{find_pages}
use Rattle.dup_cache.proofs.entries.peek.Goals as goal

pub returns : goal.returns
returns c =
    ap (option_map (λ p. p.value)) c.peek.ensures
    ∙ find_pages c.of.result.path c.args.entries.now.entries c.requires
    ∙ ap (λ q. find (λ page. bytes_eq page.path q) (pages_of c.args.entries.now.entries)) c.of.ensures
