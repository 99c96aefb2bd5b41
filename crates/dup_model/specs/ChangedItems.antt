-- The list of changed items, and what it tells of an object. The law above: `changes_law`.
use Rattle.std.specs.Prelude.{◌↔◌, List, IsTrue}
use Rattle.std.specs.List.{Contains, AllByRecursion}
use Rattle.dup_names.specs.Grammar.{is_key}
use Rattle.dup_names.specs.declared.object.Obj.{Obj}
use Rattle.dup_names.specs.declared.object.Item.{Item}
use Rattle.dup_template.specs.Paths.{KeyOk}
use Rattle.dup_template.specs.declared.site.Parts.{Parts}
use Rattle.dup_model.specs.declared.edit.Edit.{Edit}
use Rattle.dup_model.specs.declared.edit.Edit.TheVariants.{Put, Remove, Replace}
use Rattle.dup_model.specs.Content.{Content}
use Rattle.dup_model.specs.Commits.{Commit}
use Rattle.dup_model.specs.Versions.{content}
use Rattle.dup_model.specs.Skeletons.{reads}
use Rattle.dup_model.specs.Touched.{AreChanged, is_item, touched}

-- the list of all changed items exists
abbrev pub ChangesExist : Type 0
ChangesExist = (a b : Content) → (items : List Item) × AreChanged a b items

-- each row's key is a key
abbrev pub KeysAreKeys : Content → Type 0
KeysAreKeys c = AllByRecursion (λ rows. AllByRecursion (λ e. IsTrue (is_key e.0)) rows) c.tables

abbrev pub EditHasKey : Edit → Type 0
EditHasKey (Put kind key fields) = IsTrue (is_key key)
EditHasKey (Remove kind key) = IsTrue (is_key key)
EditHasKey (Replace template body) = Unit {0}

-- changes whose keys are keys keep it so
abbrev pub VersionsHaveKeys : Type 0
VersionsHaveKeys = (site : Parts) (commits : List Commit) →
    AllByRecursion (λ commit. AllByRecursion EditHasKey commit) commits → KeysAreKeys (content site commits)

-- the keys of what an object reads are keys, where those of the rows are and its own is
abbrev pub ReadsAreItems : Type 0
ReadsAreItems = (c : Content) (o : Obj) → KeysAreKeys c → KeyOk o.key →
    AllByRecursion (λ it. IsTrue (is_item it)) (reads c o)

-- an object is touched exactly where a changed item is among those that it reads
abbrev pub TouchedByChanges : Type 0
TouchedByChanges = (a b : Content) (items : List Item) (o : Obj) → AreChanged a b items → KeysAreKeys a →
    KeyOk o.key →
    (IsTrue (touched a b o) ↔ ((it : Item) × Contains items it × Contains (reads a o) it))
