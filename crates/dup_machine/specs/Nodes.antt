-- The steps of the nodes.
use Rattle.std.specs.Prelude.{ℕ, Bool, not, [], Option, Some, None, length, bytes_eq}
use Rattle.std.specs.List.{filter, list_any}
use Rattle.std.specs.FinMap as fin
use Rattle.dup_names.specs.Words.{Path}
use Rattle.dup_model.specs.Caches.{Cache, catch_up}
use Rattle.dup_model.specs.declared.mode.Mode.{Mode}
use Rattle.dup_model.specs.Answers.{answer}
use Rattle.dup_machine.specs.World.{World, told, answered}
use Rattle.dup_machine.specs.World.Told.{NodeMade, NodeTaken, NoNode, Delivered, Evicted}

abbrev pub with_node : ℕ → Cache → World → World
with_node number cache w = record w { nodes = fin.insert w.nodes number cache }

abbrev pub node_made : ℕ → ℕ → Mode → Option Cache → World → World
node_made number capacity mode (Some cache) w = told (NodeTaken number) w
node_made number capacity mode None w =
    told (NodeMade number) (with_node number (record {
      capacity = capacity;
      mode = mode;
      number = 0;
      entries = [];
    }) w)

abbrev pub delivered : ℕ → Option Cache → World → World
delivered number None w = told (NoNode number) w
delivered number (Some cache) w =
    let new = catch_up w.log cache in
    told (Delivered number new.number (length new.entries)) (with_node number new w)

abbrev pub requested : ℕ → ℕ → Path → Bool → Option Cache → World → World
requested number pass path kept None w = told (NoNode number) w
requested number pass path kept (Some cache) w =
    told (answered (answer cache w.log pass path kept).reply)
    (with_node number (answer cache w.log pass path kept).cache w)

abbrev pub evicted : ℕ → Path → Option Cache → World → World
evicted number path None w = told (NoNode number) w
evicted number path (Some cache) w =
    told (Evicted (list_any (λ page. bytes_eq page.path path) cache.entries))
    (with_node number (record cache {
      entries = filter
          (λ page. not (bytes_eq page.path path)) cache.entries;
    }) w)
