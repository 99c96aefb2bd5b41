-- The members of an object, as the entries of a map.
use Rattle.std.proofs.Common.{◌≡◌, List, [], ◌∷◌, ◌++◌, map, length, refl, ap, ◌∙◌, sym, arith, append_assoc}
use Rattle.std.specs.Prelude.{Bool, true, false, Option, Some, None, option_map, option_and_then, String, string_bytes, if◌then◌else◌, IsTrue}
use Rattle.std.specs.Ordering.{is_lt}
use Rattle.std.specs.declared.cmp.Ordering.TheVariants.{Less}
use Rattle.std.specs.List.Sorted.{IsStrictlySortedBy}
use Rattle.std.specs.Map.{keys_of}
use Rattle.std.specs.String.{string_cmp}
use Rattle.std.proofs.lemmas.Bool.{and_from}
use Rattle.std.specs.declared.alloc.Global.{Global}
use Rattle.dup_names.specs.Words.{Word}
use Rattle.dup_names.specs.Grammar.{is_name}
use Rattle.dup_names.specs.Order.{text_cmp}
use Rattle.dup_model.specs.Commits.{rise}
use Rattle.serde_json.specs.declared.value.Value.{Value}
use Rattle.serde_json.specs.Data.{Data}
use Rattle.serde_json.specs.Find.{as_str}
use Rattle.serde_json.specs.View.{view, members_view}
use Rattle.dup_feed.specs.Feed.{count_members, field_of, fields_of, where_so, is_text}

pub count_entries : (es : List (String Global × Value)) → count_members (members_view es) ≡ length es
count_entries [] = refl
count_entries (e ∷ es) = let rest = count_entries es in omega arith

-- what was read, before what the others give
abbrev pub with_front : List (Word × Word) → Option (List (Word × Word)) → Option (List (Word × Word))
with_front fs rest = option_map (λ gs. fs ++ gs) rest

front-by : (fs : List (Word × Word)) (f : Word × Word) (rest all : Option (List (Word × Word))) →
    with_front fs (option_map (λ gs. f ∷ gs) rest) ≡ all → with_front (fs ++ f ∷ []) rest ≡ all
front-by fs f None all is = is
front-by fs f (Some gs) all is = ap Some (append_assoc fs (f ∷ []) gs) ∙ is

-- one field more was read
pub front_more : (fs more : List (Word × Word)) (es rest : List (String Global × Value)) (k : String Global) (v : Value) (f : Word × Word) (all : Option (List (Word × Word))) →
    es ≡ (k, v) ∷ rest → field_of (string_bytes k) (view v) ≡ Some f → more ≡ fs ++ f ∷ [] → with_front fs (fields_of (members_view es)) ≡ all →
    with_front more (fields_of (members_view rest)) ≡ all
front_more fs more es rest k v f all front read pushed is =
    let step : with_front fs (option_and_then (λ g. option_map (λ gs. g ∷ gs) (fields_of (members_view rest))) (field_of (string_bytes k) (view v))) ≡ all =
    ap (λ xs. with_front fs (fields_of (members_view xs))) (sym front) ∙ is in
    rw pushed (front-by fs f (fields_of (members_view rest)) all (rw read at step))

name-by : (n : Word) (b : Bool) (t : Option Word) (f : Word × Word) → (if b then option_map (λ text. (n, text)) t else None) ≡ Some f → f.0 ≡ n
name-by n true (Some t) f is = let same : (n, t) ≡ f = cc in sym (ap (λ (p : Word × Word). p.0) same)
name-by n true None f is = cc
name-by n false t f is = cc

field-name : (n : Word) (d : Data) (f : Word × Word) → field_of n d ≡ Some f → f.0 ≡ n
field-name n d f is = name-by n (is_name n) (option_and_then (where_so is_text) (as_str d)) f is

names-by : (n : Word) (ks : List Word) (x : Option (Word × Word)) (r : Option (List (Word × Word))) (fs : List (Word × Word)) →
    ((f : Word × Word) → x ≡ Some f → f.0 ≡ n) → ((gs : List (Word × Word)) → r ≡ Some gs → map (λ (g : Word × Word). g.0) gs ≡ ks) →
    option_and_then (λ f. option_map (λ gs. f ∷ gs) r) x ≡ Some fs → map (λ (g : Word × Word). g.0) fs ≡ n ∷ ks
names-by n ks (Some f) (Some gs) fs here rest is =
    let same : f ∷ gs ≡ fs = cc in
    ap (map (λ (g : Word × Word). g.0)) (sym same) ∙ rw (here f refl, rest gs refl) refl
names-by n ks (Some f) None fs here rest is = cc
names-by n ks None r fs here rest is = cc

-- the fields have the keys' names
field-names : (es : List (String Global × Value)) (fs : List (Word × Word)) → fields_of (members_view es) ≡ Some fs →
    map (λ (g : Word × Word). g.0) fs ≡ map (λ e. string_bytes e.0) es
field-names [] fs is = let same : [] ≡ fs = cc in ap (map (λ (g : Word × Word). g.0)) (sym same)
field-names (e ∷ es) fs is =
    names-by (string_bytes e.0) (map (λ x. string_bytes x.0) es) (field_of (string_bytes e.0) (view e.1)) (fields_of (members_view es)) fs
    (λ f. field-name (string_bytes e.0) (view e.1) f) (field-names es) is

rise-by : (fs : List (Word × Word)) (es : List (String Global × Value)) → map (λ (g : Word × Word). g.0) fs ≡ map (λ e. string_bytes e.0) es →
    IsStrictlySortedBy string_cmp (keys_of es) → rise fs ≡ true
unfolding IsStrictlySortedBy
rise-by [] es names sorted = refl
rise-by (f ∷ []) es names sorted = refl
rise-by (f ∷ g ∷ fs) [] names sorted = cc
rise-by (f ∷ g ∷ fs) (d ∷ []) names sorted = cc
rise-by (f ∷ g ∷ fs) (d ∷ e ∷ es) names sorted =
    let first : f.0 ≡ string_bytes d.0 = cc in
    let second : g.0 ≡ string_bytes e.0 = cc in
    let others : map (λ (x : Word × Word). x.0) (g ∷ fs) ≡ map (λ x. string_bytes x.0) (e ∷ es) = cc in
    let less : text_cmp (string_bytes d.0) (string_bytes e.0) ≡ Less = sorted.0.0 in
    and_from (is_lt (text_cmp f.0 g.0)) (rise (g ∷ fs)) (rw (first, second, less) refl) (rise-by (g ∷ fs) (e ∷ es) others sorted.1)

pub rise_of : (es : List (String Global × Value)) (fs : List (Word × Word)) → IsStrictlySortedBy string_cmp (keys_of es) →
    fields_of (members_view es) ≡ Some fs → IsTrue (rise fs)
rise_of es fs sorted is = rise-by fs es (field-names es fs is) sorted
