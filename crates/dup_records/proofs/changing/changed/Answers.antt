use Rattle.std.proofs.Common.{◌≡◌, subst, sym, map}
use Rattle.std.proofs.lemmas.Result.{IfOk-weaker}
use Rattle.dup_model.specs.Touched.{AreChanged}
use Rattle.dup_records.proofs.Moved.{changed_are}
use Rattle.dup_records.proofs.changing.changed.Goals as goal

pub returns : goal.returns
returns c =
    let keys = c.in_ok-noted.noted.keys in
    let are = changed_are c.args.old.now c.args.new.now (map (λ c. c.value) c.args.commits.now) keys c.requires
    c.keeps_rows.ensures.rising c.keeps_rows-2.ensures.rising c.keeps_rows.ensures.fit c.keeps_rows-2.ensures.fit c.in_ok-noted.ensures in
    IfOk-weaker c.listed.result (λ made. made.items ≡ keys) (λ made. AreChanged c.args.old.now c.args.new.now made.items)
    (λ made is. subst (AreChanged c.args.old.now c.args.new.now) (sym is) are) c.listed.ensures
