-- What closing an open work comes to.
use Rattle.std.specs.Prelude.{◌≡◌, IsSome, IsTrue, []}
use Rattle.std.specs.FinMap.Entries.{is_sorted}
use Rattle.std.specs.List.Sorted.{IsStrictlySortedBy}
use Rattle.dup_names.specs.Order.{text_cmp}
use Rattle.dup_model.specs.Pages.{page_looks}
use Rattle.dup_build.specs.Built.{Built, once_by, unjoined_by, waiting_by}
use Rattle.dup_build.specs.Paths.{AreTouched, SameElsewhere}
use Rattle.dup_build.specs.Targets.{looks_of}
use Rattle.dup_build.specs.declared.answers.Closing.{Closing}

-- a work is open whose found objects all have looks
pub record CanClose (b : Built) : Type 0 where
  pub busy : IsSome b.works.work
  pub calm : waiting_by b.works.content b.works.work ≡ []
  pub joined : unjoined_by b.works.content b.works.work ≡ []

-- a work is open whose found objects all have looks; the target is that of its content and version, and its
-- paths rise; these are the touched paths in order, away from which it is as the last one
pub record IsClosing (b : Built) (c : Closing) : Type 0 where
  pub busy : IsSome b.works.work
  pub calm : waiting_by b.works.content b.works.work ≡ []
  pub joined : unjoined_by b.works.content b.works.work ≡ []
  pub version : c.target.version ≡ b.works.version
  pub looks : looks_of c.target ≡ page_looks b.works.content
  pub rising : IsTrue (is_sorted text_cmp (looks_of c.target))
  pub touched : AreTouched (once_by b.works.work) b.pages (looks_of c.target) c.touched
  pub order : IsStrictlySortedBy text_cmp c.touched
  pub elsewhere : SameElsewhere c.touched b.pages (looks_of c.target)
