-- Which changed pages a page may need, as the hints have it.
use Rattle.std.specs.Prelude.{◌≡◌, Bool, true, ◌||◌, ◌&&◌, not, List, [], Option, Some, None}
use Rattle.std.specs.List.{list_any}
use Rattle.std.specs.Option.{is_none}
use Rattle.std.specs.BTreeMap as tree
use Rattle.std.specs.FinMap as fin
use Rattle.std.specs.declared.alloc.Global.{Global}
use Rattle.std.specs.BTreeSet.{contains}
use Rattle.std.specs.declared.collections.BTreeMap.{BTreeMap}
use Rattle.std.specs.declared.collections.BTreeSet.{BTreeSet}
use Rattle.std.specs.declared.vec.Vec.{Vec}
use Rattle.dup_names.specs.contracts.object.ObjOrd.TheImpl.{ghosts as order}
use Rattle.dup_names.specs.Order.{text_cmp}
use Rattle.dup_names.specs.Words.{Path, Word}
use Rattle.dup_names.specs.declared.object.Obj.{Obj}
use Rattle.dup_names.specs.declared.value.Look.{Look}
use Rattle.dup_model.specs.Editions.{edition, has, looks, target_looks}
use Rattle.dup_model.specs.Needs.{links, same_use}
use Rattle.dup_names.specs.Objects.{same_obj}
use Rattle.dup_edition.specs.Logged.{Logged}
use Rattle.dup_bundle.specs.Between.{is_changed, is_needed}
use Rattle.dup_bundle.specs.Targets.{Aim}
use Rattle.dup_bundle.specs.declared.hints.Hints.{Hints}

abbrev pub listed : Option (Vec Path Global) → List Path
listed None = []
listed (Some paths) = paths.items

abbrev pub users_of : BTreeMap Obj (Vec Path Global) Global → Obj → List Path
users_of users o = listed (tree.get order.cmp users o)

abbrev pub linkers_of : BTreeMap Path (Vec Path Global) Global → Path → List Path
linkers_of linkers p = listed (tree.get text_cmp linkers p)

-- by the hints a page with this look, or none, at p may need q
abbrev pub is_hinted : Hints → Option Look → Path → Path → Bool
is_hinted h None p q = has (linkers_of h.linkers p) q
is_hinted h (Some look) p q = list_any (λ x. has (users_of h.users x.0) q) look.uses || has look.links q

-- what is needed of the changed paths is hinted
abbrev pub AreComplete : Hints → Logged → Aim → Type 0
AreComplete h e t = (p q : Path) → is_changed e t q ≡ true → is_needed e t p q ≡ true →
    is_hinted h (target_looks t.pages p) p q ≡ true

-- what a page uses
abbrev pub uses_of : Option Look → List (Obj × Word)
uses_of None = []
uses_of (Some look) = look.uses

-- some use is shown in just this way by the others
abbrev pub is_kept : List (Obj × Word) → Obj × Word → Bool
is_kept others u = list_any (same_use u) others

-- the page at q shows the object as none of the others does
abbrev pub gives_up : Logged → List (Obj × Word) → Path → Obj → Bool
gives_up e others q o =
    list_any (λ u. same_obj o u.0 && not (is_kept others u)) (uses_of (looks (edition e.log) q))

-- q is noted at each object that it gives up, and at each path that it links to and the target lacks
pub record IsNoted (h : Hints) (e : Logged) (t : Aim) (others : List (Obj × Word)) (q : Path) : Type 0 where
  pub users : (o : Obj) → gives_up e others q o ≡ true → has (users_of h.users o) q ≡ true
  pub linkers : (p : Path) → (links (looks (edition e.log) q) p && is_none (fin.get t.pages p)) ≡ true →
      has (linkers_of h.linkers p) q ≡ true

abbrev pub links_of : Option Look → List Path
links_of None = []
links_of (Some look) = look.links

-- what was noted stays
pub record Grows (old new : Hints) : Type 0 where
  pub users : (o : Obj) (q : Path) → has (users_of old.users o) q ≡ true →
      has (users_of new.users o) q ≡ true
  pub linkers : (p q : Path) → has (linkers_of old.linkers p) q ≡ true →
      has (linkers_of new.linkers p) q ≡ true

-- the object is one of a set
abbrev pub is_done : BTreeSet Obj Global → Obj → Bool
is_done done o = contains order.cmp done o

-- all that is noted at these objects was seen
abbrev pub AreDone : Hints → BTreeSet Obj Global → List Path → Type 0
AreDone h done seen = (o : Obj) → is_done done o ≡ true →
    (q : Path) → has (users_of h.users o) q ≡ true → has seen q ≡ true
