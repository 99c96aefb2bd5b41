-- Two texts that are written one behind the other.
use Rattle.std.proofs.Common.{◌≡◌, ℕ, ◌+◌, ◌≤◌, List, ◌++◌, length, length-append, take, sym, subst, arith}
use Rattle.std.specs.Prelude.{Result, Ok, Err, OnErr}
use Rattle.std.specs.Result.{IsErrAnd}
use Rattle.std.specs.declared.option.Option.{Option}
use Rattle.std.proofs.KnownBytes.{Appends-trans}
use Rattle.std.proofs.lemmas.List.{take-append-le}
use Rattle.std.proofs.Math.Seq.{take-append-add}
use Rattle.std.specs.Io.KnownBytes.{Appends}
use Rattle.dup_io.specs.Causes.{AppendsPrefix}

-- the first was cut short
pub first_cut : (a b : Option (List ℕ)) (head body : List ℕ) → AppendsPrefix a b head → AppendsPrefix a b (head ++ body)
first_cut a b head body part =
    let within : part.0 ≤ length (head ++ body) = omega (arith, part.1, length-append head body) in
    (part.0, within, subst (Appends a b) (sym (take-append-le part.0 head body part.1)) part.2)

-- the first was written, and the second cut short
pub second_cut : (a b c : Option (List ℕ)) (head body : List ℕ) → Appends a b head → AppendsPrefix b c body → AppendsPrefix a c (head ++ body)
second_cut a b c head body all part =
    let within : length head + part.0 ≤ length (head ++ body) = omega (arith, part.1, length-append head body) in
    let seen : take (length head + part.0) (head ++ body) ≡ head ++ take part.0 body = take-append-add head body part.0 in
    (length head + part.0, within, subst (Appends a c) (sym seen) (Appends-trans a b c _ _ all part.2))

pub at_err : {T E Q : Type 0} (r : Result T E) (P : E → Type 0) → IsErrAnd r P → Q → OnErr r Q
at_err (Ok x) P is q = absurd is
at_err (Err e) P is q = q
