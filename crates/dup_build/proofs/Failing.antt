-- A clause on errors holds where its fact does.
use Rattle.std.specs.Prelude.{OnErr, Ok, Err}
use Rattle.std.specs.declared.result.Result.{Result}

pub on_err : {A E P : Type 0} (r : Result A E) → P → OnErr r P
on_err (Ok x) p = tt
on_err (Err e) p = p
