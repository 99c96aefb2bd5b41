use Rattle.std.proofs.Common.{◌-◌, ◌∙◌, sym, ap, map, drop, length, arith, rules}
use Rattle.std.proofs.lemmas.List.{drop-map, length-drop, take_all}
use Rattle.dup_press.proofs.journal.Journal.since.Goals as goal

pub returns : goal.returns
returns c =
    ap (map (λ d. d.value)) (take_all (length c.deref.result.now - c.args.version) (drop c.args.version c.deref.result.now) (let n = length-drop c.args.version c.deref.result.now in omega (n, arith)))
    ∙ sym (drop-map (λ d. d.value) c.args.version c.deref.result.now)
    ∙ search rules
