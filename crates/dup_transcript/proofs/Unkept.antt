-- An answer whose page isn't kept, and how its text shows it.
use Rattle.std.proofs.Common.{◌≡◌, ◌⊎◌, inl, inr, ℕ, Bool, true, false, List, [], ◌∷◌, ◌++◌, refl, sym, ap, ◌∙◌, append_assoc, arith, get_or, length}
use Rattle.std.specs.Prelude.{Option, Some, None, codes, nat_le, nat_lt, if◌then◌else◌}
use Rattle.std.specs.Fmt.{decimal}
use Rattle.std.specs.FinMap as fin
use Rattle.std.proofs.lemmas.List.{append_cancel_left}
use Rattle.dup_names.specs.Lines.{line}
use Rattle.dup_names.specs.Words.{Word, Path}
use Rattle.dup_model.specs.Answers.{Answer, How, Reply, after_refresh, answer, answer_at, missed}
use Rattle.dup_model.specs.Answers.How.{Miss, MissUnkept}
use Rattle.dup_model.specs.Caches.{Cache, catch_up, entry}
use Rattle.dup_model.specs.Editions.{Bundle, Edition, Page, edition}
use Rattle.dup_machine.specs.World.{answered}
use Rattle.dup_transcript.specs.MachinePlays.{tells_kept}
use Rattle.dup_transcript.specs.Texts.{found_text, how_word}

abbrev kept_by : Answer → Bool
kept_by a = tells_kept (answered a.reply)

-- with memory a page is kept; and without, the answer is the same, or it is a miss that shows it
abbrev IsFree : (Bool → Answer) → Type 0
IsFree a = (kept_by (a true) ≡ true)
    × ((kept_by (a false) ≡ true)
    ⊎ ((e : ℕ) × (page : Page) × ((a false).reply ≡ Reply.Found e page MissUnkept) × ((a true).reply ≡ Reply.Found e page Miss)))

by_page : (c : Cache) (o : Option Page) → IsFree (λ kept. missed c kept o)
by_page c None = (refl, inl refl)
by_page c (Some page) = (refl, inr (c.number, page, refl, refl))

by_entry : (c : Cache) (e : Edition) (path : Path) (o : Option Page) → IsFree (λ kept. after_refresh c e path kept o)
by_entry c e path (Some page) = (refl, inl refl)
by_entry c e path None = by_page c (fin.get e path)

by_pass : (c : Cache) (e : Edition) (pass : ℕ) (path : Path) (ahead : Bool)
    → IsFree (λ kept. if ahead then record { reply = Reply.Ahead pass c.number; cache = c } else after_refresh c e path kept (entry c path))
by_pass c e pass path true = (refl, inl refl)
by_pass c e pass path false = by_entry c e path (entry c path)

by_ready : (log : List Bundle) (cache : Cache) (pass : ℕ) (path : Path) (o : Option Page) → IsFree (λ kept. answer_at cache log pass path kept o)
by_ready log cache pass path (Some page) = (refl, inl refl)
by_ready log cache pass path None = by_pass (catch_up log cache) (edition log) pass path (nat_lt (length log) pass)

pub unkept_is_free : (log : List Bundle) (cache : Cache) (pass : ℕ) (path : Path) → IsFree (λ kept. answer cache log pass path kept)
unkept_is_free log cache pass path = by_ready log cache pass path (if nat_le pass cache.number then entry cache path else None)

-- the texts part where they say how the page was found
abbrev front : ℕ → Page → Word
front e page = codes "found " ++ decimal e ++ codes " " ++ decimal page.version ++ codes " "

abbrev back : Page → Word → Word
back page more = codes " " ++ (decimal (length page.look.bytes) ++ ((10 ∷ []) ++ (line page.look.bytes ++ more)))

in_two : (a how b c d e more : Word) → (a ++ how ++ b ++ c ++ d ++ e) ++ more ≡ a ++ (how ++ (b ++ (c ++ (d ++ (e ++ more)))))
in_two a how b c d e more = simp append_assoc

parted : (e : ℕ) (page : Page) (how : How) (more : Word) → found_text e page how ++ more ≡ front e page ++ (how_word how ++ back page more)
parted e page how more = in_two (front e page) (how_word how) (codes " ") (decimal (length page.look.bytes)) (10 ∷ []) (line page.look.bytes) more

apart : (t u : Word) → codes "unkept" ++ t ≡ codes "miss" ++ u → ⊥
apart t u same = let first : 117 ≡ 109 = ap (λ (w : Word). get_or w 0 0) same in omega (arith, first)

pub texts_differ : (e : ℕ) (page : Page) (more rest : Word) → found_text e page MissUnkept ++ more ≡ found_text e page Miss ++ rest → ⊥
texts_differ e page more rest same =
    apart (back page more) (back page rest) (append_cancel_left (front e page) _ _ (sym (parted e page MissUnkept more) ∙ same ∙ parted e page Miss rest))
