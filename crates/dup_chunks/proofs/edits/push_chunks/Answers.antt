use Rattle.std.proofs.Common.{◌≡◌, ◌++◌, sym, ap, ◌∙◌, take, drop}
use Rattle.std.specs.List.{flat_map}
use Rattle.std.proofs.lemmas.List.{append_assoc, take-append-drop}
use Rattle.std.proofs.lemmas.Result.{IfOk-weaker}
use Rattle.dup_chunks.proofs.edits.push_chunks.Goals as goal

pub returns-clause-value : goal.returns-clause-value
returns-clause-value g c =
    let flat = flat_map (λ a. a.value) in
    let whole : c.split_off.new.self.items ++ c.in_ok-behind.behind.items ≡ c.args.items.items =
    ap (λ l. l ++ c.in_ok-behind.behind.items) c.in_ok-behind.ensures.items ∙ ap (λ l. take 32 c.args.items.items ++ l) c.in_ok-behind.ensures.tail ∙ take-append-drop 32 c.args.items.items in
    IfOk-weaker c.push_chunk-3.result
    (λ _. flat c.push_chunk-3.new.made.items ≡ flat c.push_chunk-2.new.made.items ++ c.in_ok-behind.behind.items)
    (λ _. flat c.push_chunk-3.new.made.items ≡ flat c.args.made.now.items ++ c.args.items.items)
    (λ _ is. is ∙ (ap (λ l. l ++ c.in_ok-behind.behind.items) c.in_ok-push_chunk.ensures.value ∙ append_assoc (flat c.args.made.now.items) c.split_off.new.self.items c.in_ok-behind.behind.items ∙ ap (λ l. flat c.args.made.now.items ++ l) whole)) c.push_chunk-3.ensures.value
