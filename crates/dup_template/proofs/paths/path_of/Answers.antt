use Rattle.dup_names.specs.Words.{Word}
use Rattle.std.proofs.Common.{◌≡◌, sym, ap, ◌∙◌}
use Rattle.std.specs.Prelude.{Option, Some, None, IfSome}
use Rattle.dup_names.specs.declared.object.Obj.{Obj}
use Rattle.dup_template.specs.declared.site.Parts.{Parts}
use Rattle.dup_template.specs.Good.{site_fault}
use Rattle.dup_template.specs.Paths.{path_at, obj_at, KeyOk}
use Rattle.dup_template.proofs.ObjectOfPath.{obj_of_path}
use Rattle.dup_template.proofs.paths.path_of.Goals as goal

leads-back : (site : Parts) → site_fault site ≡ None → (o : Obj) → KeyOk o.key → (path : Option Word) → path ≡ path_at site o → IfSome path (λ p. obj_at site p ≡ Some o)
leads-back site good o ok None is = tt
leads-back site good o ok (Some path) is = obj_of_path site good o path ok (sym is)

pub returns-clause-back : goal.returns-clause-back
returns-clause-back c = leads-back c.args.site.now (rw c.parts.ensures.value at c.parts.ensures.good) c.args.obj.now c.key_known.ensures _ (c.find_path.ensures ∙ ap (λ s. path_at s c.args.obj.now) c.parts.ensures.value)
