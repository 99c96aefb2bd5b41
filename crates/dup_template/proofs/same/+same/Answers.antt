use Rattle.dup_template.specs.SameStatement.{same_Each, same_Link}
use Rattle.dup_template.proofs.same.+same.Goals as goal

pub same_statement-returns-then-same_each : goal.same_statement-returns-then-same_each
same_statement-returns-then-same_each t c =
    rw (c.in-Each.is, c.in-Each-b.is, same_Each, ← c.same_each.ensures, c.if-same_each.true, ← c.items-then-same_each.ensures, ← c.items-then-same_each-2.ensures)
    c.same_body-then-same_each.ensures

pub same_statement-returns-then-same_marked : goal.same_statement-returns-then-same_marked
same_statement-returns-then-same_marked t c =
    rw (c.in-Link.is, c.in-Link-b.is, same_Link, ← c.same_marked-in-Link-b.ensures, c.if-same_marked.true, ← c.items-then-same_marked.ensures, ← c.items-then-same_marked-2.ensures)
    c.same_body-then-same_marked.ensures
