use Rattle.std.proofs.Common.{◌∙◌, sym, arith, rules}
use Rattle.dup_script.proofs.NumberLemmas.{overflows, all_read}
use Rattle.dup_script.proofs.number.read_number.Goals as goal

pub returns-in_err-checked_mul : goal.returns-in_err-checked_mul
returns-in_err-checked_mul c = search rules ∙ sym (overflows _ _ c.loop-byte.value c.loop-byte-test.true c.loop-byte.invariant.value (omega (arith, c.in_err-checked_mul.ensures)))

pub returns-in_err-value : goal.returns-in_err-value
returns-in_err-value c = search rules ∙ sym (overflows _ _ c.loop-byte.value c.loop-byte-test.true c.loop-byte.invariant.value (omega (arith, c.in_err-value.ensures, c.in_ok-checked_mul.ensures)))

pub returns : goal.returns
returns c = all_read _ _ _ c.loop-byte-test.false (search rules) (search rules) c.loop-byte.invariant.digits c.loop-byte.invariant.value
