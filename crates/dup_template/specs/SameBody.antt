-- When two bodies are the same, as a test. The law above: `same_bodies_law`.
use Rattle.std.specs.Bool.{Decides}
use Rattle.std.specs.Prelude.{◌≡◌, Bool, true, false, ◌&&◌, List, [], ◌∷◌, Option}
use Rattle.std.specs.Option.{option_eq}
use Rattle.dup_template.specs.declared.statement.Statement.{Statement, fold-Statement, roll-Statement}
use Rattle.dup_template.specs.declared.statement.Statement.TheOpen.{Statement-F}
use Rattle.dup_template.specs.declared.statement.Statement.TheFolds.{map-Statement}
use Rattle.dup_names.specs.Words.{Word, same}
use Rattle.std.specs.Cmp.Lexicographic.{pointwise}

-- a statement and its outermost layer, from those of the statements within it
abbrev pub rebuilt : Statement-F (Statement × Statement-F Statement) → Statement × Statement-F Statement
rebuilt y =
    let layer = map-Statement (Statement × Statement-F Statement) Statement (λ p. p.0) y in
    (roll-Statement layer, layer)

-- what a statement is, with the statements within it
abbrev pub layer : Statement → Statement-F Statement
layer s = (fold-Statement (Statement × Statement-F Statement) rebuilt s).1

abbrev pub same_name : Option Word → Option Word → Bool
same_name = option_eq same

-- each test passes on the statement at its place
abbrev pub all_pass : List (Statement → Bool) → List Statement → Bool
all_pass [] [] = true
all_pass [] (s ∷ ss) = false
all_pass (f ∷ fs) [] = false
all_pass (f ∷ fs) (s ∷ ss) = f s && all_pass fs ss

-- the same form with the same names, and each test passes
abbrev pub same_open : Statement-F (Statement → Bool) → Statement-F Statement → Bool
same_open (Statement-F.Say v) (Statement-F.Say w) = same v w
same_open Statement-F.Nl Statement-F.Nl = true
same_open (Statement-F.Field v) (Statement-F.Field w) = same v w
same_open Statement-F.Key Statement-F.Key = true
same_open (Statement-F.If v fs) (Statement-F.If w body) = same v w && all_pass fs body
same_open (Statement-F.Each k b o fs) (Statement-F.Each l d p body) =
    (same k l && (same_name b d && same_name o p)) && all_pass fs body
same_open (Statement-F.Embed v a) (Statement-F.Embed w b) = same v w && same_name a b
same_open (Statement-F.Link v a fs) (Statement-F.Link w b body) =
    (same v w && same_name a b) && all_pass fs body
same_open _ _ = false

abbrev pub same_statement : Statement → Statement → Bool
same_statement = fold-Statement (Statement → Bool) (λ y t. same_open y (layer t))

abbrev pub same_body : List Statement → List Statement → Bool
same_body = pointwise same_statement

abbrev pub SameBodyDecides : Type 0
SameBodyDecides = (xs ys : List Statement) → Decides (same_body xs ys) (xs ≡ ys)
