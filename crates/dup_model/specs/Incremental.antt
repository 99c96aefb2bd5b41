-- What stays the same from one content of a site to another. The law above: `incremental_law`.
use Rattle.std.specs.Prelude.{◌≡◌, false}
use Rattle.dup_names.specs.declared.object.Obj.{Obj}
use Rattle.dup_model.specs.Content.{Content}
use Rattle.dup_model.specs.Marks.{marks}
use Rattle.dup_model.specs.Skeletons.{reads, embeds, goes, skeleton}
use Rattle.dup_model.specs.Looks.{look}
use Rattle.dup_model.specs.Touched.{touched, affected}

-- an object by itself
pub record IsSameAlone (a b : Content) (o : Obj) : Type 0 where
  pub marks : marks a o ≡ marks b o
  pub reads : reads a o ≡ reads b o
  pub embeds : embeds a o ≡ embeds b o
  pub goes : goes a o ≡ goes b o
  pub skeleton : skeleton a o ≡ skeleton b o

-- an object that isn't touched is the same by itself
abbrev pub UntouchedIsSame : Type 0
UntouchedIsSame = (a b : Content) (o : Obj) → a.frame ≡ b.frame →
    touched a b o ≡ false → IsSameAlone a b o

-- an object that isn't affected has the same look
abbrev pub UnaffectedLooksSame : Type 0
UnaffectedLooksSame = (a b : Content) (o : Obj) → a.frame ≡ b.frame →
    affected a b o ≡ false → look a o ≡ look b o
