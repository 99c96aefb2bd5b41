use Rattle.std.proofs.Common.{◌≡◌, ◌+◌, ◌≤◌, length, take, not, arith, sym, ap, ◌∙◌}
use Rattle.std.specs.List.{flat_map}
use Rattle.std.proofs.lemmas.Bool.{le-ltb}
use Rattle.dup_chunks.proofs.Placed.{reached}
use Rattle.dup_chunks.proofs.chunked.Chunked.has_at_least.Goals as goal

pub returns-then-rest-some : goal.returns-then-rest-some
returns-then-rest-some g c =
    let whole : length (flat_map (λ a. a.value) c.deref-chunk-items.result.now) ≡ length c.args.self.now =
    ap (λ l. length (flat_map (λ a. a.value) l)) c.deref-chunk-items.ensures.value ∙ ap length c.self.view_is in
    let some : length c.items-some.result.now ≡ length c.chunk-item.result.value = ap length (c.items-some.ensures ∙ c.deref.ensures) in
    let more = reached (λ a. a.value) c.deref-chunk-items.result.now c.loop-chunk.chunk-index c.chunk-item.result c.loop-chunk-test.true c.chunk-item.is in
    let enough : c.args.count ≤ length c.args.self.now = omega (arith, whole, some, more, c.loop-chunk.invariant, c.if-rest-some.true) in
    sym (ap not (le-ltb (length c.args.self.now) c.args.count enough))
