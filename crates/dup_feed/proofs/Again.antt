-- The value of a commit says the commit.
use Rattle.std.proofs.Common.{◌≡◌, ◌≤◌, ℕ, ◌+◌, ◌<◌, List, [], ◌∷◌, ◌++◌, map, length, take, get_or, refl, ap, ◌∙◌, sym, arith, add-one, take-suc}
use Rattle.std.proofs.lemmas.List.{map-append}
use Rattle.std.specs.Prelude.{true, false, nat_eq, Some, Ok}
use Rattle.std.specs.Str.{IsUtf8}
use Rattle.std.proofs.lemmas.Bool.{false_from_ne_true, eqb-true, le-ltb, le-leb}
use Rattle.std.proofs.lemmas.Str.{is_utf8-from_IsUtf8}
use Rattle.dup_names.specs.Grammar.{is_name, is_key}
use Rattle.dup_names.specs.Words.{Word}
use Rattle.dup_names.specs.declared.limits.TheConstants.{MAX_CHANGES, MAX_TEXT_BYTES}
use Rattle.dup_template.specs.BodyLines.{body_text}
use Rattle.dup_template.specs.declared.statement.Statement.{Statement}
use Rattle.dup_model.specs.Commits.{Commit, HasCommitLength}
use Rattle.dup_model.specs.declared.edit.Edit.TheVariants.{Put, Remove, Replace}
use Rattle.dup_site.specs.SaidBody.{body_said}
use Rattle.serde_json.specs.Data.{string}
use Rattle.serde_json.specs.Read.{read}
use Rattle.serde_json.specs.View.{items_of}
use Rattle.dup_feed.specs.Feed.{change_of, count_items, data_says, each_from, feed_says, field_of, fields_of, line_of, lines_of}
use Rattle.dup_feed.specs.Message.{change_data, commit_data, fields_data}

-- a field says itself
pub field_again : (f : Word × Word) → is_name f.0 ≡ true → length f.1 ≤ MAX_TEXT_BYTES → field_of f.0 (string f.1) ≡ Some f
field_again f named fits = rw (named, le-leb (length f.1) MAX_TEXT_BYTES fits) refl

pub line_again : (w : Word) → length w ≤ MAX_TEXT_BYTES → line_of (string w) ≡ Some w
line_again w fits = rw (le-leb (length w) MAX_TEXT_BYTES fits) refl

-- one more of a list says itself
pub fields_next : (fs : List (Word × Word)) (i : ℕ) (f : Word × Word) → i < length fs → f ≡ get_or fs i f → field_of f.0 (string f.1) ≡ Some f →
    map (λ (g : Word × Word). field_of g.0 (string g.1)) (take i fs) ≡ map Some (take i fs) →
    map (λ (g : Word × Word). field_of g.0 (string g.1)) (take (i + 1) fs) ≡ map Some (take (i + 1) fs)
fields_next fs i f within is here before =
    let more : take (i + 1) fs ≡ take i fs ++ f ∷ [] = rw add-one (take-suc fs i f within ∙ ap (λ x. take i fs ++ x ∷ []) (sym is)) in
    rw (more, map-append, map-append, before, here) refl

-- what says itself one by one says itself as a list
pub fields_again : (fs : List (Word × Word)) → map (λ (f : Word × Word). field_of f.0 (string f.1)) fs ≡ map Some fs → fields_of (fields_data fs) ≡ Some fs
fields_again [] h = refl
fields_again (f ∷ fs) h =
    let here : field_of f.0 (string f.1) ≡ Some f = cc in
    let rest : map (λ (g : Word × Word). field_of g.0 (string g.1)) fs ≡ map Some fs = cc in
    rw (here, fields_again fs rest) refl

pub lines_again : (ws : List Word) → map line_of (map string ws) ≡ map Some ws → lines_of (items_of (map string ws)) ≡ Some ws
lines_again [] h = refl
lines_again (w ∷ ws) h =
    let here : line_of (string w) ≡ Some w = cc in
    let rest : map line_of (map string ws) ≡ map Some ws = cc in
    rw (here, lines_again ws rest) refl

pub changes_again : (i : ℕ) (es : Commit) → map change_of (map change_data es) ≡ map Some es → each_from i (items_of (map change_data es)) ≡ Ok es
changes_again i [] h = refl
changes_again i (e ∷ es) h =
    let here : change_of (change_data e) ≡ Some e = cc in
    let rest : map change_of (map change_data es) ≡ map Some es = cc in
    rw (here, changes_again (i + 1) es rest) refl

-- each shape of a change says it
pub put_again : (kind key : Word) (fs : List (Word × Word)) → is_name kind ≡ true → is_key key ≡ true → fields_of (fields_data fs) ≡ Some fs →
    change_of (change_data (Put kind key fs)) ≡ Some (Put kind key fs)
put_again kind key fs named keyed fields = rw (named, keyed, fields) refl

pub remove_again : (kind key : Word) → is_name kind ≡ true → is_key key ≡ true → change_of (change_data (Remove kind key)) ≡ Some (Remove kind key)
remove_again kind key named keyed = rw (named, keyed) refl

pub replace_again : (template : Word) (body : List Statement) → is_name template ≡ true → lines_of (items_of (map string (body_text body))) ≡ Some (body_text body) →
    body_said (body_text body) ≡ Some body → change_of (change_data (Replace template body)) ≡ Some (Replace template body)
replace_again template body named lines said = rw (named, lines, said) refl

count_again : (es : Commit) → count_items (items_of (map change_data es)) ≡ length es
count_again [] = refl
count_again (e ∷ es) = let rest = count_again es in omega arith

pub commit_again : (es : Commit) → HasCommitLength es → map change_of (map change_data es) ≡ map Some es → data_says (Some (commit_data es)) ≡ Ok es
commit_again es fits says =
    let full : nat_eq (length es) 0 ≡ false = false_from_ne_true (nat_eq (length es) 0) (λ e. absurd (let z : length es ≡ 0 = eqb-true (length es) 0 e in omega arith)) in
    rw (count_again es, full, le-ltb MAX_CHANGES (length es) fits.1) (changes_again 1 es says)

-- a text that reads as the value of a commit says the commit
pub text_again : (text : Word) (es : Commit) → IsUtf8 text → read text ≡ Some (commit_data es) → data_says (Some (commit_data es)) ≡ Ok es → feed_says text ≡ Ok es
text_again text es utf8 reads says = rw (is_utf8-from_IsUtf8 text utf8, reads) says
