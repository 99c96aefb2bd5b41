use Rattle.std.proofs.lemmas.Result.{on_ok_weaker}
use Rattle.dup_calls.proofs.Growing.{all_grow, on_ok}
use Rattle.dup_calls.proofs.nodes.answer.Goals as goal

pub returns-in-Settle : goal.returns-in-Settle
returns-in-Settle g c =
    on_ok_weaker c.settle.result (λ begins. all_grow c.settle.new.press.log c.args.press.now.log c.args.nodes.now.items begins c.requires) c.settle.ensures

pub returns-in-Titles : goal.returns-in-Titles
returns-in-Titles g c =
    on_ok_weaker c.titles.result (λ begins. all_grow c.titles.new.press.log c.args.press.now.log c.args.nodes.now.items begins c.requires) c.titles.ensures

pub returns-in-Evict : goal.returns-in-Evict
returns-in-Evict g c = on_ok c.evict.result (c.evict.ensures c.args.press.now.log c.requires)
