-- The machine: one step for each event. The law above: `runs_law`.
use Rattle.std.specs.Prelude.{List}
use Rattle.std.specs.List.{fold}
use Rattle.std.specs.FinMap as fin
use Rattle.dup_template.specs.declared.site.Parts.{Parts}
use Rattle.dup_model.specs.Journal.{Limits, commit_refusal}
use Rattle.dup_machine.specs.World.{World, Event, first_world}
use Rattle.dup_machine.specs.World.Event.{Comes, Begin, Hand, Put, Join, Finish, Publish, Node, Deliver, Request, Evict}
use Rattle.dup_machine.specs.Press.{committed, begun, handed, put_from, joined, finished, published}
use Rattle.dup_machine.specs.Nodes.{node_made, delivered, requested, evicted}

abbrev pub step : Parts → Limits → World → Event → World
step site limits w (Comes c) = committed c (commit_refusal site limits w.commits c) w
step site limits w Begin = begun site w.work w.target w
step site limits w (Hand slot) = handed site slot w.work (fin.get w.slots slot) w
step site limits w (Put slot) = put_from site slot (fin.get w.slots slot) w
step site limits w Join = joined site w.work w
step site limits w Finish = finished site w.work w
step site limits w Publish = published site w.target w
step site limits w (Node number capacity mode) = node_made number capacity mode (fin.get w.nodes number) w
step site limits w (Deliver node) = delivered node (fin.get w.nodes node) w
step site limits w (Request node pass path kept) = requested node pass path kept (fin.get w.nodes node) w
step site limits w (Evict node path) = evicted node path (fin.get w.nodes node) w

abbrev pub run : Parts → Limits → List Event → World
run site limits events = fold (step site limits) first_world events
