-- That the test of statements tells whether they are the same. It stands among the definitions, since the
-- comparison of statements has it as its law.
use Rattle.std.proofs.Common.{◌≡◌, Bool, true, false, ◌&&◌, List, [], ◌∷◌, map, refl, sym, ap, ap₂, subst, ◌∙◌}
use Rattle.std.specs.Prelude.{Option, Some, None}
use Rattle.std.proofs.lemmas.Bool.{true≢false, and_parts, and_from}
use Rattle.std.specs.Bool.{Decides}
use Rattle.std.proofs.lemmas.Slice.Eq.{bytes_eq-Decides, slice_eq-Decides}
use Rattle.dup_template.specs.declared.statement.Statement.{Statement, fold-Statement, roll-Statement}
use Rattle.dup_template.specs.declared.statement.Statement.TheVariants as s
use Rattle.dup_template.specs.declared.statement.Statement.TheVariants.{rolls-If, rolls-Each, rolls-Link}
use Rattle.dup_template.specs.declared.statement.Statement.TheOpen.{Statement-F}
use Rattle.dup_template.specs.declared.statement.Statement.TheFolds.{ind-Statement, fold-roll-Statement, map-Statement}
use Rattle.dup_names.specs.Words.{Word, same}
use Rattle.dup_template.specs.SameBody.{rebuilt, layer, same_name, all_pass, same_open, same_statement, same_body}

word_same : (a b : Word) → same a b ≡ true → a ≡ b
word_same a b is = (bytes_eq-Decides a b).0 is

name_same : (a b : Option Word) → same_name a b ≡ true → a ≡ b
name_same None None is = refl
name_same None (Some b) is = absurd (true≢false (sym is))
name_same (Some a) None is = absurd (true≢false (sym is))
name_same (Some a) (Some b) is = ap Some (word_same a b is)

-- a statement is rebuilt as it was

abbrev fold_rebuilt : Statement → Statement × Statement-F Statement
fold_rebuilt = fold-Statement (Statement × Statement-F Statement) rebuilt

abbrev IsRebuilt : Statement → Type 0
IsRebuilt s = (fold_rebuilt s).0 ≡ s

abbrev Old : Type 0
Old = (s : Statement) × IsRebuilt s

kids : (es : List Old) → map (λ p. p.0) (map fold_rebuilt (map (λ e. e.0) es)) ≡ map (λ e. e.0) es
kids [] = refl
kids (e ∷ es) = λ i. e.1 i ∷ kids es i

layer_same : (y : Statement-F Old) → map-Statement (Statement × Statement-F Statement) Statement (λ p. p.0) (map-Statement Statement (Statement × Statement-F Statement) fold_rebuilt (map-Statement Old Statement (λ e. e.0) y)) ≡ map-Statement Old Statement (λ e. e.0) y
layer_same (Statement-F.Say w) = refl
layer_same Statement-F.Nl = refl
layer_same (Statement-F.Field n) = refl
layer_same Statement-F.Key = refl
layer_same (Statement-F.If n body) = ap (Statement-F.If n) (kids body)
layer_same (Statement-F.Each n by order body) = ap (Statement-F.Each n by order) (kids body)
layer_same (Statement-F.Embed n via) = refl
layer_same (Statement-F.Link n via body) = ap (Statement-F.Link n via) (kids body)

rebuilt_roll : (x : Statement-F Statement) → fold_rebuilt (roll-Statement x) ≡ rebuilt (map-Statement Statement (Statement × Statement-F Statement) fold_rebuilt x)
rebuilt_roll x = fold-roll-Statement (Statement × Statement-F Statement) rebuilt x

is_rebuilt : (s : Statement) → IsRebuilt s
is_rebuilt = ind-Statement IsRebuilt (λ x y is. subst (λ z. IsRebuilt (roll-Statement z)) is
    (ap (λ p. p.0) (rebuilt_roll (map-Statement Old Statement (λ e. e.0) y)) ∙ ap roll-Statement (layer_same y)))

kids_all : (ss : List Statement) → map (λ p. p.0) (map fold_rebuilt ss) ≡ ss
kids_all [] = refl
kids_all (s ∷ ss) = λ i. is_rebuilt s i ∷ kids_all ss i

layer_of : (x : Statement-F Statement) → map-Statement (Statement × Statement-F Statement) Statement (λ p. p.0) (map-Statement Statement (Statement × Statement-F Statement) fold_rebuilt x) ≡ x
layer_of (Statement-F.Say w) = refl
layer_of Statement-F.Nl = refl
layer_of (Statement-F.Field n) = refl
layer_of Statement-F.Key = refl
layer_of (Statement-F.If n body) = ap (Statement-F.If n) (kids_all body)
layer_of (Statement-F.Each n by order body) = ap (Statement-F.Each n by order) (kids_all body)
layer_of (Statement-F.Embed n via) = refl
layer_of (Statement-F.Link n via body) = ap (Statement-F.Link n via) (kids_all body)

pub layer_roll : (x : Statement-F Statement) → layer (roll-Statement x) ≡ x
layer_roll x = ap (λ p. p.1) (rebuilt_roll x) ∙ layer_of x

pub roll_layer : (s : Statement) → roll-Statement (layer s) ≡ s
roll_layer = ind-Statement (λ s. roll-Statement (layer s) ≡ s) (λ x y is. ap roll-Statement (layer_roll x))

-- the test

abbrev Tells : Statement → Type 0
Tells s = (t : Statement) → same_statement s t ≡ true → s ≡ t

abbrev Kid : Type 0
Kid = (s : Statement) × Tells s

bodies_same : (es : List Kid) (ts : List Statement) → all_pass (map same_statement (map (λ e. e.0) es)) ts ≡ true → map (λ e. e.0) es ≡ ts
bodies_same [] [] is = refl
bodies_same [] (t ∷ ts) is = absurd (true≢false (sym is))
bodies_same (e ∷ es) [] is = absurd (true≢false (sym is))
bodies_same (e ∷ es) (t ∷ ts) is =
    let both : (same_statement e.0 t ≡ true) × (all_pass (map same_statement (map (λ e. e.0) es)) ts ≡ true) = and_parts _ _ is in
    λ i. e.1 t both.0 i ∷ bodies_same es ts both.1 i

abbrev firsts : Statement-F Kid → Statement-F Statement
firsts y = map-Statement Kid Statement (λ e. e.0) y

abbrev tests : Statement-F Kid → Statement-F (Statement → Bool)
tests y = map-Statement Statement (Statement → Bool) same_statement (firsts y)

no : {A : Type 0} → false ≡ true → A
no is = absurd (true≢false (sym is))

open_same : (y : Statement-F Kid) (z : Statement-F Statement) → same_open (tests y) z ≡ true → firsts y ≡ z
open_same (Statement-F.Say v) (Statement-F.Say w) is = ap Statement-F.Say (word_same v w is)
open_same Statement-F.Nl Statement-F.Nl is = refl
open_same (Statement-F.Field v) (Statement-F.Field w) is = ap Statement-F.Field (word_same v w is)
open_same Statement-F.Key Statement-F.Key is = refl
open_same (Statement-F.If v es) (Statement-F.If w body) is =
    let both : (same v w ≡ true) × (all_pass (map same_statement (map (λ e. e.0) es)) body ≡ true) = and_parts _ _ is in
    λ i. Statement-F.If (word_same v w both.0 i) (bodies_same es body both.1 i)
open_same (Statement-F.Each k b o es) (Statement-F.Each l d p body) is =
    let both : ((same k l && (same_name b d && same_name o p)) ≡ true) × (all_pass (map same_statement (map (λ e. e.0) es)) body ≡ true) = and_parts _ _ is in
    let one : (same k l ≡ true) × ((same_name b d && same_name o p) ≡ true) = and_parts _ _ both.0 in
    let two : (same_name b d ≡ true) × (same_name o p ≡ true) = and_parts _ _ one.1 in
    λ i. Statement-F.Each (word_same k l one.0 i) (name_same b d two.0 i) (name_same o p two.1 i) (bodies_same es body both.1 i)
open_same (Statement-F.Embed v a) (Statement-F.Embed w b) is =
    let both : (same v w ≡ true) × (same_name a b ≡ true) = and_parts _ _ is in
    λ i. Statement-F.Embed (word_same v w both.0 i) (name_same a b both.1 i)
open_same (Statement-F.Link v a es) (Statement-F.Link w b body) is =
    let both : ((same v w && same_name a b) ≡ true) × (all_pass (map same_statement (map (λ e. e.0) es)) body ≡ true) = and_parts _ _ is in
    let one : (same v w ≡ true) × (same_name a b ≡ true) = and_parts _ _ both.0 in
    λ i. Statement-F.Link (word_same v w one.0 i) (name_same a b one.1 i) (bodies_same es body both.1 i)
open_same (Statement-F.Say v) _ is = no is
open_same Statement-F.Nl _ is = no is
open_same (Statement-F.Field v) _ is = no is
open_same Statement-F.Key _ is = no is
open_same (Statement-F.If v es) _ is = no is
open_same (Statement-F.Each k b o es) _ is = no is
open_same (Statement-F.Embed v a) _ is = no is
open_same (Statement-F.Link v a es) _ is = no is

pub statement_same : (s : Statement) → Tells s
statement_same = ind-Statement Tells (λ x y is. subst (λ z. Tells (roll-Statement z)) is (λ t h.
    ap roll-Statement (open_same y (layer t) (sym (ap (λ f. f t) (fold-roll-Statement (Statement → Bool) (λ y t. same_open y (layer t)) (firsts y))) ∙ h)) ∙ roll_layer t))

-- a statement passes its own test

abbrev Passes : Statement → Type 0
Passes s = same_statement s s ≡ true

abbrev Passed : Type 0
Passed = (s : Statement) × Passes s

bodies_itself : (es : List Passed) → all_pass (map same_statement (map (λ e. e.0) es)) (map (λ e. e.0) es) ≡ true
bodies_itself [] = refl
bodies_itself (e ∷ es) = and_from _ _ e.1 (bodies_itself es)

word_itself : (w : Word) → same w w ≡ true
word_itself w = (bytes_eq-Decides w w).1 refl

name_itself : (a : Option Word) → same_name a a ≡ true
name_itself None = refl
name_itself (Some w) = word_itself w

open_itself : (y : Statement-F Passed) → let z = map-Statement Passed Statement (λ e. e.0) y in same_open (map-Statement Statement (Statement → Bool) same_statement z) z ≡ true
open_itself (Statement-F.Say w) = word_itself w
open_itself Statement-F.Nl = refl
open_itself (Statement-F.Field n) = word_itself n
open_itself Statement-F.Key = refl
open_itself (Statement-F.If n body) = and_from _ _ (word_itself n) (bodies_itself body)
open_itself (Statement-F.Each n by order body) = and_from _ _ (and_from _ _ (word_itself n) (and_from _ _ (name_itself by) (name_itself order))) (bodies_itself body)
open_itself (Statement-F.Embed n via) = and_from _ _ (word_itself n) (name_itself via)
open_itself (Statement-F.Link n via body) = and_from _ _ (and_from _ _ (word_itself n) (name_itself via)) (bodies_itself body)

pub statement_itself : (s : Statement) → Passes s
statement_itself = ind-Statement Passes (λ x y is. subst (λ z. Passes (roll-Statement z)) is
    (let z : Statement-F Statement = map-Statement Passed Statement (λ e. e.0) y in
    ap (λ f. f (roll-Statement (map-Statement Passed Statement (λ e. e.0) y))) (fold-roll-Statement (Statement → Bool) (λ y t. same_open y (layer t)) (map-Statement Passed Statement (λ e. e.0) y))
    ∙ ap (same_open (map-Statement Statement (Statement → Bool) same_statement (map-Statement Passed Statement (λ e. e.0) y))) (layer_roll (map-Statement Passed Statement (λ e. e.0) y))
    ∙ open_itself y))

pub statement-Decides : (s t : Statement) → Decides (same_statement s t) (s ≡ t)
statement-Decides s t = (statement_same s t, λ e. subst (λ u. same_statement s u ≡ true) e (statement_itself s))

pub body-Decides : (xs ys : List Statement) → Decides (same_body xs ys) (xs ≡ ys)
body-Decides xs ys = slice_eq-Decides statement-Decides xs ys _ refl

-- the tests of the statements within, on those of the other
all_pointwise : (xs ys : List Statement) → all_pass (map same_statement xs) ys ≡ same_body xs ys
all_pointwise [] [] = refl
all_pointwise [] (y ∷ ys) = refl
all_pointwise (x ∷ xs) [] = refl
all_pointwise (x ∷ xs) (y ∷ ys) = ap (λ b. same_statement x y && b) (all_pointwise xs ys)

pub same_If : (f g : Word) (xs ys : List Statement) → same_statement (s.If f xs) (s.If g ys) ≡ (same f g && same_body xs ys)
same_If f g xs ys =
    ap₂ same_statement (sym (rolls-If f xs)) (sym (rolls-If g ys))
    ∙ ap (λ t. t (roll-Statement (Statement-F.If g ys))) (fold-roll-Statement (Statement → Bool) (λ y t. same_open y (layer t)) (Statement-F.If f xs))
    ∙ ap (same_open (Statement-F.If f (map same_statement xs))) (layer_roll (Statement-F.If g ys))
    ∙ ap (λ b. same f g && b) (all_pointwise xs ys)

pub same_Each : (k l : Word) (b d o p : Option Word) (xs ys : List Statement) → same_statement (s.Each k b o xs) (s.Each l d p ys) ≡ ((same k l && (same_name b d && same_name o p)) && same_body xs ys)
same_Each k l b d o p xs ys =
    ap₂ same_statement (sym (rolls-Each k b o xs)) (sym (rolls-Each l d p ys))
    ∙ ap (λ t. t (roll-Statement (Statement-F.Each l d p ys))) (fold-roll-Statement (Statement → Bool) (λ y t. same_open y (layer t)) (Statement-F.Each k b o xs))
    ∙ ap (same_open (Statement-F.Each k b o (map same_statement xs))) (layer_roll (Statement-F.Each l d p ys))
    ∙ ap (λ e. (same k l && (same_name b d && same_name o p)) && e) (all_pointwise xs ys)

pub same_Link : (n m : Word) (a b : Option Word) (xs ys : List Statement) → same_statement (s.Link n a xs) (s.Link m b ys) ≡ ((same n m && same_name a b) && same_body xs ys)
same_Link n m a b xs ys =
    ap₂ same_statement (sym (rolls-Link n a xs)) (sym (rolls-Link m b ys))
    ∙ ap (λ t. t (roll-Statement (Statement-F.Link m b ys))) (fold-roll-Statement (Statement → Bool) (λ y t. same_open y (layer t)) (Statement-F.Link n a xs))
    ∙ ap (same_open (Statement-F.Link n a (map same_statement xs))) (layer_roll (Statement-F.Link m b ys))
    ∙ ap (λ e. (same n m && same_name a b) && e) (all_pointwise xs ys)
