use Rattle.std.proofs.Common.{sym, ap, ◌∙◌}
use Rattle.std.specs.Prelude.{is_some}
use Rattle.std.specs.Option.{option_copied}
use Rattle.dup_model.specs.Looks.{look}
use Rattle.dup_names.specs.Objects.{is_in}
use Rattle.dup_build.specs.Stocked.{Stocked}
use Rattle.dup_sets.proofs.Entries.{at_in, some_copied}
use Rattle.dup_build.proofs.stock.Stock.look.Goals as goal

pub unwrap-shown-requires : goal.unwrap-shown-requires
unwrap-shown-requires c =
    some_copied c.get.result ∙ ap is_some c.get.ensures ∙ sym (at_in c.self.inside.looks c.args.obj.now)
    ∙ ap (λ (s : Stocked). is_in s.looked c.args.obj.now) c.self.view_is ∙ c.requires

pub returns : goal.returns
returns c =
    c.in_ok-try_clone.ensures
    ∙ c.self.invariant.stock.looks_are c.args.obj.now c.unwrap-shown.result.now (sym c.get.ensures ∙ ap option_copied c.unwrap-shown.ensures)
    ∙ ap (λ (s : Stocked). look s.content c.args.obj.now) c.self.view_is
