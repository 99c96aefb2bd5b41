-- Windows that are all alike.
use Rattle.std.proofs.Common.{◌≡◌, List, [], ◌∷◌, ◌++◌, All, sym, subst}
use Rattle.std.proofs.lemmas.List.Elements.{All-push}
use Rattle.dup_live.specs.declared.sight.Pane.{Pane}

pub one_more : (first w : Pane) (all before : List Pane) → all ≡ before ++ w ∷ [] → w ≡ first → All (λ (p : Pane). p ≡ first) before → All (λ (p : Pane). p ≡ first) all
one_more first w all before is same h = subst (All (λ (p : Pane). p ≡ first)) (sym is) (All-push (λ (p : Pane). p ≡ first) before w h same)
