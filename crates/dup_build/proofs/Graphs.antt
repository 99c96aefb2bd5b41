-- The graph of what done objects read and embed.
use Rattle.std.proofs.Common.{◌≡◌, Bool, true, false, cond, ◌||◌, List, ◌∷◌, Some, None, refl, sym, ap, ◌∙◌}
use Rattle.std.proofs.lemmas.Bool.{true≢false}
use Rattle.std.specs.FinMap as fin
use Rattle.dup_names.specs.Order.{obj_cmp}
use Rattle.dup_names.specs.Words.{in_order}
use Rattle.dup_names.specs.declared.object.Obj.{Obj}
use Rattle.dup_names.specs.declared.object.Item.{Item}
use Rattle.dup_names.specs.Objects.{is_in, same_obj}
use Rattle.dup_names.proofs.ObjectOrder.{obj_same, obj_total}
use Rattle.dup_model.specs.Content.{Content}
use Rattle.dup_model.specs.Skeletons.{reads, embeds}
use Rattle.dup_model.specs.Touched.{AreChanged, without, touched, affected}
use Rattle.dup_model.specs.ChangedItems.{KeysAreKeys}
use Rattle.dup_model.specs.Embeddings.{EmbedsEarlier}
use Rattle.dup_template.specs.Paths.{KeyOk}
use Rattle.dup_machine.specs.Closed.{IsClosed}
use Rattle.std.specs.Option.{unwrap_or}
use Rattle.dup_walk.specs.Affected.{has_changed, IsAffected}
use Rattle.dup_walk.proofs.OverReads.{affected_members, touched_by_reads}
use Rattle.dup_model.specs.Incremental.{IsSameAlone}
use Rattle.dup_model.proofs.Incremental.{untouched_same}
use Rattle.dup_model.proofs.Earlier.{in_ordered}
use Rattle.dup_machine.proofs.Closing.{without_parts}
use Rattle.dup_graph.specs.declared.nodes.Node.{Node}
use Rattle.dup_graph.specs.Graph.{Nodes, no_node, node_at}
use Rattle.dup_graph.proofs.Readers.{same_tie}
use Rattle.dup_walk.specs.OverReads.{HasReads}

pub get_put : (g : Nodes) (o x : Obj) (n : Node) → fin.get (fin.insert g o n) x ≡ cond (same_obj x o) (Some n) (fin.get g x)
get_put g o x n = fin.get-insert obj_total g o n x ∙ ap (λ b. cond b (Some n) (fin.get g x)) (sym (same_tie x o))

pub get_dropped : (g : Nodes) (o x : Obj) → fin.get (fin.remove g o) x ≡ cond (same_obj x o) None (fin.get g x)
get_dropped g o x = fin.get-remove obj_total g o x ∙ ap (λ b. cond b None (fin.get g x)) (sym (same_tie x o))

-- the touched objects are taken out on the way to the next content
pub reads_moved : (a b : Content) → a.frame ≡ b.frame → (done dropped : List Obj) (g h : Nodes) → HasReads a done g →
    ((o : Obj) → is_in done o ≡ true → is_in dropped o ≡ touched a b o) → ((o : Obj) → is_in dropped o ≡ false → fin.get h o ≡ fin.get g o) →
    HasReads b (without (touched a b) done) h
reads_moved a b frames done dropped g h has drops kept o inside =
    let parts : (is_in done o ≡ true) × (touched a b o ≡ false) = without_parts (touched a b) done o inside in
    let same : IsSameAlone a b o = untouched_same a b o frames parts.1 in
    kept o (drops o parts.0 ∙ parts.1) ∙ has o parts.0 ∙ (λ i. Some (record { items = same.reads i; children = same.embeds i }))

-- one more object is done
pub reads_put : (c : Content) (done : List Obj) (o : Obj) (n : Node) (g : Nodes) → n.items ≡ reads c o → n.children ≡ embeds c o → HasReads c done g →
    HasReads c (in_order obj_cmp (o ∷ done)) (fin.insert g o n)
reads_put c done o n g items children has x inside = get_put g o x n ∙ by_test (same_obj x o) refl (sym (in_ordered (o ∷ done) x) ∙ inside)
  where
    by_test : (b : Bool) → same_obj x o ≡ b → (b || is_in done x) ≡ true → cond b (Some n) (fin.get g x) ≡ Some (record { items = reads c x; children = embeds c x })
    by_test true one h =
        (λ i. Some (record { items = items i; children = children i })) ∙ ap (λ (y : Obj). Some (let m : Node = record { items = reads c y; children = embeds c y } in m)) (sym (obj_same x o one))
    by_test false apart h = has x h

-- an object that isn't done is put in and taken out again
pub reads_back : (c : Content) (done : List Obj) (o : Obj) (n : Node) (g : Nodes) → is_in done o ≡ false → HasReads c done g →
    HasReads c done (fin.remove (fin.insert g o n) o)
reads_back c done o n g out has x inside =
    get_dropped (fin.insert g o n) o x ∙ ap (cond (same_obj x o) None) (get_put g o x n) ∙ by_test (same_obj x o) refl
  where
    by_test : (b : Bool) → same_obj x o ≡ b → cond b None (cond b (Some n) (fin.get g x)) ≡ Some (record { items = reads c x; children = embeds c x })
    by_test true one = absurd (true≢false (sym inside ∙ ap (is_in done) (obj_same x o one) ∙ out))
    by_test false apart = has x inside

-- others are forgotten
pub reads_left : (c : Content) (done left : List Obj) (g h : Nodes) → ((o : Obj) → is_in left o ≡ true → is_in done o ≡ true) →
    ((o : Obj) → is_in left o ≡ true → fin.get h o ≡ fin.get g o) → HasReads c done g → HasReads c left h
reads_left c done left g h among kept has x inside = kept x inside ∙ has x (among x inside)

-- taking one of these objects out takes no other
pub still_there : (gone : List Obj) (g : Nodes) (p x : Obj) → is_in gone p ≡ true → is_in gone x ≡ false → fin.get (fin.remove g p) x ≡ fin.get g x
still_there gone g p x inside out = get_dropped g p x ∙ by_test (same_obj x p) refl
  where
    by_test : (b : Bool) → same_obj x p ≡ b → cond b None (fin.get g x) ≡ fin.get g x
    by_test true one = absurd (true≢false (sym (ap (is_in gone) (obj_same x p one) ∙ inside) ∙ out))
    by_test false apart = refl

module _ (a b : Content) (done looked : List Obj) (g : Nodes) (items : List Item) (earlier : EmbedsEarlier a) (keys : KeysAreKeys a) (keyed : (o : Obj) → is_in done o ≡ true → KeyOk o.key)
    (closed : IsClosed a done looked) (changed : AreChanged a b items) (has : HasReads a done g) where
  -- of the done objects, those with a changed item are touched
  pub hit_dropped : (dropped : List Obj) → ((o : Obj) → is_in dropped o ≡ has_changed items (node_at g o)) → (o : Obj) → is_in done o ≡ true → is_in dropped o ≡ touched a b o
  hit_dropped dropped each o inside = each o ∙ ap (λ n. has_changed items (unwrap_or n no_node)) (has o inside) ∙ touched_by_reads a b items o keys (keyed o inside) changed

  -- of the objects with looks, those that are reached are affected
  pub hit_stale : (stale : List Obj) → IsAffected g items stale → (o : Obj) → is_in looked o ≡ true → is_in stale o ≡ affected a b o
  hit_stale stale least o inside = affected_members a b looked g items stale earlier keys
      (record { keys = λ x h. keyed x (closed.is_done x h); embedded = closed.embedded }) (λ x h. has x (closed.is_done x h)) changed least o inside
