use Rattle.std.proofs.Common.{refl}
use Rattle.std.specs.Fmt.{digits}
use Rattle.dup_serve.proofs.NodeTexts.{finds, finds_unkept, finds_none}
use Rattle.dup_serve.proofs.laws.node_rows.Goals as goal

pub returns : goal.returns
unfolding digits
returns c = record {
  found = finds;
  unkept = finds_unkept;
  head = refl;
  not_allowed = refl;
  ahead = refl;
  absent = finds_none;
  no_path = refl;
  bad_request = refl;
  too_large = refl;
  head_too_large = refl;
  not_implemented = refl;
}
