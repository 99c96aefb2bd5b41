use Rattle.std.proofs.Common.{Some, sym}
use Rattle.dup_cache.proofs.Tables.{absent_over, set_keyed, set_over}
use Rattle.dup_cache.proofs.entries.overwrite.Goals as goal

pub returns-in-Some-clause-pages : goal.returns-in-Some-clause-pages
returns-in-Some-clause-pages c = set_over c.args.key.path c.args.page c.args.entries.now.entries c.requires.keyed c.len-len.ensures.valid.0

pub returns-in-Some-clause-keyed : goal.returns-in-Some-clause-keyed
returns-in-Some-clause-keyed c = set_keyed c.args.key.path c.args.page c.args.entries.now.entries c.requires.placed c.requires.keyed

pub returns-in_default-clause-pages : goal.returns-in_default-clause-pages
returns-in_default-clause-pages c = absent_over c.args.key.path (Some c.args.page.value) c.args.entries.now.entries c.requires.keyed (sym c.in_default.ensures.value)
