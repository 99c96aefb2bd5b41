use Rattle.std.proofs.Common.{refl}
use Rattle.std.specs.Fmt.{digits}
use Rattle.dup_serve.proofs.laws.desk_rows.Goals as goal

pub returns : goal.returns
unfolding digits
returns c = record {
  accepted = refl;
  not_json = refl;
  full = refl;
  refused = refl;
  get = refl;
  status = refl;
  head = refl;
  post = refl;
  absent = refl;
  cut = refl;
  cut_head = refl;
}
