use Rattle.std.proofs.Common.{Bool, List, ◌&&◌, not, ap, ◌∙◌}
use Rattle.std.specs.List.{list_any}
use Rattle.std.specs.Option.{is_none}
use Rattle.std.specs.FinMap as fin
use Rattle.dup_names.specs.Words.{Word}
use Rattle.dup_names.specs.declared.object.Obj.{Obj}
use Rattle.dup_model.specs.Editions.{edition, has, looks}
use Rattle.dup_names.specs.Objects.{same_obj}
use Rattle.dup_bundle.specs.Hinted.{is_kept, links_of, uses_of}
use Rattle.dup_bundle.proofs.Hinting.{has_links}
use Rattle.dup_bundle.proofs.hints.note_page.Goals as goal

pub returns-clause-notes : goal.returns-clause-notes
returns-clause-notes c =
    let old = looks (edition c.args.edition.now.log) c.args.path.now in
    let given_up : Obj → List (Obj × Word) → List (Obj × Word) → Bool = λ o others shown. list_any (λ u. same_obj o u.0 && not (is_kept others u)) shown in
    record {
      users = λ o given. c.in_ok-note_uses.ensures.notes o
          (ap (given_up o c.args.others.now) (c.uses.ensures ∙ ap uses_of c.shown-old.ensures) ∙ given);
      linkers = λ p given. c.in_ok-note_links.ensures.notes p
          (ap (λ b. b && is_none (fin.get c.args.target.now.pages p)) (ap (λ l. has l p) (c.links.ensures ∙ ap links_of c.shown-old.ensures) ∙ has_links old p) ∙ given);
    }
