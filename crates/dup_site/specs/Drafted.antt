-- A reading's parts and what is open, as the definitions see them.
use Rattle.std.specs.Prelude.{◌≡◌, List, [], ◌∷◌, ◌++◌, Option, Some, None, Result, Ok, Err, Bool, true}
use Rattle.std.specs.Prelude.{false}
use Rattle.dup_site.specs.declared.draft.Open.{Open as Frame}
use Rattle.dup_site.specs.declared.draft.SiteReading.{SiteReading}
use Rattle.dup_site.specs.declared.keeping.Keeping.{Keeping as Reader}
use Rattle.dup_site.specs.Draft.{Draft, Open}
use Rattle.dup_site.specs.KeptStatements.{Keeping}

abbrev pub seen_open : Frame → Open
seen_open o = record { head = o.head; done = o.done.items }

-- the innermost first
abbrev pub outward : List Frame → List Open
outward [] = []
outward (o ∷ os) = outward os ++ seen_open o ∷ []

abbrev pub drafted : SiteReading → Draft
drafted r = record {
  kinds = r.kinds.items;
  templates = r.templates.items;
  pages = r.pages.items;
  stack = outward r.stack.items;
}

abbrev pub keeping_of : Reader → Keeping
keeping_of k = record { draft = drafted k.reading; begun = k.begun; passed = k.passed; deep = k.deep }

-- true where the step is this state, and false where there is none
abbrev pub Goes : {E S : Type 0} → Result Bool E → S → Option S → Type 0
Goes (Ok true) new step = step ≡ Some new
Goes (Ok false) new step = step ≡ None
Goes (Err e) new step = Unit {0}
