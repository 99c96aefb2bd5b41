use Rattle.std.proofs.Common.{sym, ◌∙◌}
use Rattle.dup_node.proofs.Serving.{hit_given, miss_given}
use Rattle.dup_node.proofs.node.found.Goals as goal

pub returns-then-touch : goal.returns-then-touch
returns-then-touch c e held is =
    hit_given c.args.cache.now e c.args.path.now held c.args.page c.edition-edition.result c.touch.new.self c.edition-edition.ensures is (sym c.touch.ensures.found ∙ c.if-touch.true) c.touch.ensures.entries

pub returns : goal.returns
returns c e held is =
    miss_given c.args.cache.now e c.args.path.now held c.args.page c.keep-how.result c.edition-edition.result c.touch.new.self c.keep-how.new.cache c.edition-edition.ensures is (sym c.touch.ensures.found ∙ c.if-touch.false) c.touch.ensures.entries
    c.keep-how.ensures.how c.keep-how.ensures.cache
