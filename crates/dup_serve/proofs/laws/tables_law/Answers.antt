use Rattle.dup_serve.proofs.Tables.{node_can, desk_can}
use Rattle.std.proofs.Common.{refl}
use Rattle.dup_serve.proofs.laws.tables_law.Goals as goal

pub returns : goal.returns
returns c = record {
  node = λ ask reply. node_can ask.method ask.path reply;
  desk = λ ask answer words. desk_can ask.path ask.method answer words;
  bad = λ code known. record { known = known; sized = refl };
}
