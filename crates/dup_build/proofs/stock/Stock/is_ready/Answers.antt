use Rattle.std.proofs.Common.{◌≡◌, List, Some, length, ap, ◌∙◌}
use Rattle.std.specs.Prelude.{nat_eq}
use Rattle.std.specs.List.{list_all}
use Rattle.std.proofs.lemmas.Option.{none-some, same_Some}
use Rattle.dup_names.specs.declared.object.Obj.{Obj}
use Rattle.dup_names.specs.Objects.{is_in}
use Rattle.dup_model.specs.Touched.{without}
use Rattle.dup_sets.specs.Entries.{at, objs}
use Rattle.dup_machine.specs.Reached.{opened}
use Rattle.dup_build.specs.Nodes.{children_of}
use Rattle.dup_build.specs.Stocked.{Stocked, unjoined_in}
use Rattle.dup_build.proofs.Counting.{none_missing}
use Rattle.dup_build.proofs.Stocking.{children_opened}
use Rattle.dup_build.proofs.stock.Stock.is_ready.Goals as goal

pub returns-in-None : goal.returns-in-None
returns-in-None c =
    let o : Obj = c.args.obj.now in
    let counted : at c.self.inside.missing o ≡ Some (length (without (is_in (objs c.self.inside.looks)) (children_of (at c.self.inside.nodes o)))) =
    c.self.invariant.counts o
    (ap (λ l. is_in l o) (c.self.invariant.stock.unjoined ∙ ap unjoined_in c.self.view_is) ∙ c.requires.unjoined)
    (ap (λ (s : Stocked). is_in s.done o) c.self.view_is ∙ c.requires.done) in
    absurd (none-some (length (without (is_in (objs c.self.inside.looks)) (children_of (at c.self.inside.nodes o)))) (c.in-None.ensures ∙ counted))

pub returns-in-Some : goal.returns-in-Some
returns-in-Some c =
    let o : Obj = c.args.obj.now in
    let kids : List Obj = children_of (at c.self.inside.nodes o) in
    let counted : at c.self.inside.missing o ≡ Some (length (without (is_in (objs c.self.inside.looks)) kids)) =
    c.self.invariant.counts o
    (ap (λ l. is_in l o) (c.self.invariant.stock.unjoined ∙ ap unjoined_in c.self.view_is) ∙ c.requires.unjoined)
    (ap (λ (s : Stocked). is_in s.done o) c.self.view_is ∙ c.requires.done) in
    ap (λ n. nat_eq n 0) (same_Some c.in-Some.count.now (length (without (is_in (objs c.self.inside.looks)) kids)) (c.in-Some.ensures ∙ counted))
    ∙ none_missing (is_in (objs c.self.inside.looks)) kids
    ∙ ap (list_all (is_in (objs c.self.inside.looks))) (children_opened c.self.inside.content c.self.inside.nodes c.self.invariant.stock.nodes_are o)
    ∙ ap (λ (s : Stocked). list_all (is_in s.looked) (opened s.content s.done o)) c.self.view_is
