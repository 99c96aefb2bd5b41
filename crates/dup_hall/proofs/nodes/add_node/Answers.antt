use Rattle.std.proofs.Common.{refl, rules}
use Rattle.dup_hall.proofs.Caches.{empty_holds, holds_with, made_turns, taken_turns}
use Rattle.dup_hall.proofs.nodes.add_node.Goals as goal

pub returns-then-contains_key-clause-turns : goal.returns-then-contains_key-clause-turns
returns-then-contains_key-clause-turns c = λ log. taken_turns log c.args.nodes.now c.args.number c.args.capacity c.args.mode _ (search rules) refl

pub returns-clause-holds : goal.returns-clause-holds
returns-clause-holds c = λ log all. holds_with log c.args.nodes.now c.make_node.new.nodes c.args.number _ all c.in_ok-make_node.ensures.puts (empty_holds log c.args.capacity c.args.mode)

pub returns-clause-turns : goal.returns-clause-turns
returns-clause-turns c = λ log. made_turns log c.args.nodes.now c.make_node.new.nodes c.args.number c.args.capacity c.args.mode _ (search rules) c.in_ok-make_node.ensures.puts refl
