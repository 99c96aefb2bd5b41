use Rattle.std.proofs.Common.{◌≡◌, ◌+◌, ◌-◌, ℕ, ◌∙◌, sym, ap, map, drop, take, arith, rules}
use Rattle.std.proofs.lemmas.List.{drop-map, drop-take, take-map}
use Rattle.dup_press.proofs.journal.Journal.between.Goals as goal

pub returns : goal.returns
returns c =
    let up : c.args.from + (c.args.to - c.args.from) ≡ c.args.to = omega (c.requires.order, arith) in
    ap (map (λ d. d.value)) (sym (drop-take c.args.from (c.args.to - c.args.from) c.deref.result.now) ∙ ap (λ (n : ℕ). drop c.args.from (take n c.deref.result.now)) up)
    ∙ sym (drop-map (λ d. d.value) c.args.from (take c.args.to c.deref.result.now))
    ∙ ap (drop c.args.from) (sym (take-map (λ d. d.value) c.args.to c.deref.result.now))
    ∙ search rules
