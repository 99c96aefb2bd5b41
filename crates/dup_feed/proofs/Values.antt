-- The value of a commit as a tree: how deep it is, and that no number stands in it.
use Rattle.std.proofs.Common.{◌≡◌, ◌≤◌, ℕ, List, [], ◌∷◌, ◌++◌, ◌+◌, ◌<◌, suc, map, length, take, drop, get_or, refl, sym, ap, subst, ◌∙◌, arith, add-one, take-suc, drop-cons}
use Rattle.std.specs.Prelude.{true, false}
use Rattle.std.specs.Ordering.{is_lt, ordering_reverse}
use Rattle.std.specs.declared.cmp.Ordering.{Ordering}
use Rattle.std.specs.declared.cmp.Ordering.TheVariants.{Less, Equal, Greater}
use Rattle.std.proofs.lemmas.Bool.{and_parts}
use Rattle.std.proofs.lemmas.List.{take-append-drop}
use Rattle.std.proofs.lemmas.Cmp.{nat_list_cmp_total}
use Rattle.dup_names.specs.Order.{text_cmp}
use Rattle.dup_names.specs.Words.{Word}
use Rattle.dup_template.specs.BodyLines.{body_text}
use Rattle.dup_model.specs.Commits.{Commit, rise}
use Rattle.dup_model.specs.declared.edit.Edit.{Edit}
use Rattle.dup_model.specs.declared.edit.Edit.TheVariants.{Put, Remove, Replace}
use Rattle.serde_json.specs.Data.{Data, string, Members, member, put, depth, items_depth, members_depth}
use Rattle.serde_json.specs.Read.{max_depth}
use Rattle.serde_json.specs.View.{items_of}
use Rattle.serde_json.specs.Written.{has_float, items_have_float, members_have_float}
use Rattle.dup_feed.specs.Message.{change_data, commit_data, fields_data}

-- no string is a number, or nests
fields_plain : (fs : List (Word × Word)) → members_have_float (fields_data fs) ≡ false
fields_plain [] = refl
fields_plain (f ∷ fs) = fields_plain fs

strings_plain : (ws : List Word) → items_have_float (items_of (map string ws)) ≡ false
strings_plain [] = refl
strings_plain (w ∷ ws) = strings_plain ws

change_plain : (e : Edit) → has_float (change_data e) ≡ false
change_plain (Put kind key fs) = rw (fields_plain fs) refl
change_plain (Remove kind key) = refl
change_plain (Replace template body) = rw (strings_plain (body_text body)) refl

changes_plain : (es : Commit) → items_have_float (items_of (map change_data es)) ≡ false
changes_plain [] = refl
changes_plain (e ∷ es) = rw (change_plain e, changes_plain es) refl

pub commit_plain : (es : Commit) → has_float (commit_data es) ≡ false
commit_plain es = rw (changes_plain es) refl

fields_flat : (fs : List (Word × Word)) → members_depth (fields_data fs) ≡ 0
fields_flat [] = refl
fields_flat (f ∷ fs) = rw (fields_flat fs) refl

strings_flat : (ws : List Word) → items_depth (items_of (map string ws)) ≡ 0
strings_flat [] = refl
strings_flat (w ∷ ws) = rw (strings_flat ws) refl

change_shallow : (e : Edit) → depth (change_data e) ≤ 2
change_shallow (Put kind key fs) = rw (fields_flat fs) (omega arith)
change_shallow (Remove kind key) = omega arith
change_shallow (Replace template body) = rw (strings_flat (body_text body)) (omega arith)

changes_shallow : (es : Commit) → items_depth (items_of (map change_data es)) ≤ 2
changes_shallow [] = omega arith
changes_shallow (e ∷ es) = let here = change_shallow e in let rest = changes_shallow es in omega arith

pub commit_shallow : (es : Commit) → depth (commit_data es) ≤ max_depth
commit_shallow es = let all = changes_shallow es in omega arith

less_of : (o : Ordering) → is_lt o ≡ true → o ≡ Less
less_of Less h = refl
less_of Equal h = cc
less_of Greater h = cc

-- the first of rising names is below each later one
first_below : (f : Word × Word) (fs : List (Word × Word)) (g : Word × Word) (rest : List (Word × Word)) → rise (f ∷ (fs ++ g ∷ rest)) ≡ true → text_cmp f.0 g.0 ≡ Less
first_below f [] g rest rising = less_of (text_cmp f.0 g.0) (and_parts (is_lt (text_cmp f.0 g.0)) (rise (g ∷ rest)) rising).0
first_below f (e ∷ fs) g rest rising =
    let both = and_parts (is_lt (text_cmp f.0 e.0)) (rise (e ∷ (fs ++ g ∷ rest))) rising in
    nat_list_cmp_total.trans f.0 e.0 g.0 (less_of (text_cmp f.0 e.0) both.0) (first_below e fs g rest both.1)

later-rise : (f : Word × Word) (fs : List (Word × Word)) → rise (f ∷ fs) ≡ true → rise fs ≡ true
later-rise f [] rising = refl
later-rise f (e ∷ fs) rising = (and_parts (is_lt (text_cmp f.0 e.0)) (rise (e ∷ fs)) rising).1

-- a member above the others goes last
pub put_last : (fs : List (Word × Word)) (g : Word × Word) (rest : List (Word × Word)) → rise (fs ++ g ∷ rest) ≡ true →
    put g.0 (string g.1) (fields_data fs) ≡ fields_data (fs ++ g ∷ [])
put_last [] g rest rising = refl
put_last (f ∷ fs) g rest rising =
    let above : text_cmp g.0 f.0 ≡ Greater = nat_list_cmp_total.antisymm g.0 f.0 ∙ ap ordering_reverse (first_below f fs g rest rising) in
    rw above (ap (member f.0 (string f.1)) (put_last fs g rest (later-rise f (fs ++ g ∷ rest) rising)))

-- the next of rising fields goes last
pub put_next : (fs : List (Word × Word)) (i : ℕ) (f : Word × Word) (name : Word) (d : Data) (ms more : Members) → i < length fs → f ≡ get_or fs i f → rise fs ≡ true →
    name ≡ f.0 → d ≡ string f.1 → ms ≡ fields_data (take i fs) → more ≡ put name d ms → more ≡ fields_data (take (i + 1) fs)
put_next fs i f name d ms more within is rising named text before made =
    let back : take i fs ++ f ∷ drop (suc i) fs ≡ fs =
    ap (λ x. take i fs ++ x ∷ drop (suc i) fs) is ∙ ap (λ xs. take i fs ++ xs) (sym (drop-cons fs i f within)) ∙ take-append-drop i fs in
    let next : take i fs ++ f ∷ [] ≡ take (suc i) fs = ap (λ x. take i fs ++ x ∷ []) is ∙ sym (take-suc fs i f within) in
    let last : put f.0 (string f.1) (fields_data (take i fs)) ≡ fields_data (take (i + 1) fs) =
    rw add-one (put_last (take i fs) f (drop (suc i) fs) (subst (λ xs. rise xs ≡ true) (sym back) rising) ∙ ap fields_data next) in
    made ∙ rw (named, text, before) last
