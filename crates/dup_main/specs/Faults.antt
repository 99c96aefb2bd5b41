-- When a run answers a fault of its source or of its sink.
use Rattle.std.specs.Prelude.{◌≡◌, ◌≢◌, ℕ, Result, Err, IsErrOf}
use Rattle.dup_io.specs.Causes.{Rose}
use Rattle.dup_main.specs.declared.stop.Stop.{Stop}

-- this fault is answered only where its count rose, and with any other answer the count stays
pub record FaultHasCause {T : Type 0} (result : Result T Stop) (fault : Stop) (before now : ℕ) : Type 0 where
  pub rose : IsErrOf result fault → Rose before now
  pub stays : result ≢ Err fault → now ≡ before
