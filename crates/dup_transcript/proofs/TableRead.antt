-- A line of the table commands what the table says, so a bad line is in it in no way.
use Rattle.std.proofs.Common.{◌≡◌, ◌⊎◌, inl, inr, ℕ, Bool, true, false, not, ◌||◌, List, [], ◌∷◌, get_or, refl, sym, ap, ◌∙◌, subst}
use Rattle.std.specs.Prelude.{Option, Some, None, Result, Ok, Err, codes, if◌then◌else◌, nat_eq}
use Rattle.std.specs.Fmt.{decimal}
use Rattle.std.specs.List.{filter, onto_first, slice_split}
use Rattle.std.proofs.lemmas.Bool.{true≢false}
use Rattle.std.proofs.lemmas.List.Splits.{slice_split-cons_no}
use Rattle.dup_names.specs.LineWords.{is_empty, is_space, line_words, starts_spaced, trimmed}
use Rattle.dup_names.specs.Words.{Word, same}
use Rattle.dup_template.specs.Good.{behind}
use Rattle.dup_model.specs.Commits.{Commit}
use Rattle.dup_model.specs.declared.feed_refusal.FeedRefusal.{FeedRefusal}
use Rattle.dup_transcript.specs.declared.command.Command.TheVariants as command
use Rattle.dup_transcript.specs.Commands.{Command, Feed, by_message, by_start, by_words, comes_alone, comes_with_slot, if_more, line_command, message_of, of_message, slot_command}
use Rattle.dup_transcript.specs.Numbers.{number_of}
use Rattle.dup_transcript.specs.OnlyTable.{IsInTable, OthersAreBad}
use Rattle.dup_transcript.specs.OnlyTable.IsInTable.{alone, blank, comment, commit, settle, status, node, deliver, get, evict, with_slot}
use Rattle.dup_transcript.proofs.CommandTable.{capacity_small, mode_read, node_small, slot_small}
use Rattle.dup_transcript.proofs.Numbers.{read_decimal}
use Rattle.dup_transcript.proofs.OnlyTable.{behind_is, only_the_table, same_is, words_trimmed}

trimmed_start : (text : Word) → starts_spaced (trimmed text) ≡ false
trimmed_start [] = refl
trimmed_start (b ∷ bs) = by_test (is_space b) refl (trimmed_start bs)
  where
    by_test : (t : Bool) → is_space b ≡ t → starts_spaced (trimmed bs) ≡ false → starts_spaced (if t then trimmed bs else b ∷ bs) ≡ false
    by_test true is rest = rest
    by_test false is rest = is

-- the word of a comment begins with `#`, which is 35
abbrev is_marked : Word → Bool
is_marked [] = false
is_marked (b ∷ bs) = nat_eq b 35

-- a word that neither begins a comment nor a commit
abbrev IsKeyword : Word → Type 0
IsKeyword word = (is_marked word ≡ false) × (same word (codes "commit") ≡ false)

marked_first : (b : ℕ) (bs first : Word) (rest : List Word) → is_space b ≡ false → line_words (b ∷ bs) ≡ first ∷ rest → is_marked first ≡ nat_eq b 35
marked_first b bs first rest start words = by_parts (slice_split is_space bs) (sym (ap filled (slice_split-cons_no is_space b bs start)) ∙ words)
  where
    filled : List Word → List Word
    filled parts = filter (λ w. not (is_empty w)) parts

    by_parts : (parts : List Word) → filled (onto_first b parts) ≡ first ∷ rest → is_marked first ≡ nat_eq b 35
    by_parts [] is = ap (λ (ws : List Word). is_marked (get_or ws 0 [])) (sym is)
    by_parts (p ∷ ps) is = ap (λ (ws : List Word). is_marked (get_or ws 0 [])) (sym is)

module _ (feed : Feed) where
  by_line : (line first : Word) (rest : List Word) → starts_spaced line ≡ false → line_words line ≡ first ∷ rest → IsKeyword first → by_start feed line ≡ by_words (first ∷ rest)
  by_line [] first rest start words keyword = absurd (cc)
  by_line (b ∷ bs) first rest start words keyword =
      let unmarked : nat_eq b 35 ≡ false = sym (marked_first b bs first rest start words) ∙ keyword.0 in
      ap (λ t. if t then command.Blank else by_message feed (message_of (b ∷ bs)) (b ∷ bs)) unmarked
      ∙ ap (λ o. by_message feed o (b ∷ bs)) (no_message (behind (codes "commit ") (b ∷ bs)) refl)
      ∙ ap by_words words
    where
      no_message : (o : Option Word) → behind (codes "commit ") (b ∷ bs) ≡ o → if_more o ≡ None
      no_message None is = refl
      no_message (Some more) is =
          let commits : codes "commit" ≡ first = ap (λ (ws : List Word). get_or ws 0 []) (sym (ap line_words (behind_is (codes "commit ") (b ∷ bs) more is)) ∙ words) in
          absurd (true≢false (ap (λ w. same w (codes "commit")) commits ∙ keyword.1))

  by_keyword : (text first : Word) (rest : List Word) → line_words text ≡ first ∷ rest → IsKeyword first → line_command feed text ≡ by_words (first ∷ rest)
  by_keyword text first rest words keyword = by_line (trimmed text) first rest (trimmed_start text) (words_trimmed text ∙ words) keyword

or_else : (x y : Bool) → (x || y) ≡ true → (x ≡ true) ⊎ (y ≡ true)
or_else true y h = inl refl
or_else false y h = inr h

-- the keywords of the commands that aren't built
abbrev IsAlone : Word → Type 0
IsAlone word = IsKeyword word × (by_words (word ∷ []) ≡ command.NotBuilt)

alone_keyword : (word : Word) → comes_alone word ≡ true → IsAlone word
alone_keyword word comes = elim (or_else _ _ comes) [
  | inl three ↦ elim (or_else _ _ three) [
    | inl two ↦ elim (or_else _ _ two) [
      | inl is ↦ subst IsAlone (sym (same_is word (codes "begin") is)) ((refl, refl), refl)
      | inr is ↦ subst IsAlone (sym (same_is word (codes "join") is)) ((refl, refl), refl)
    ]
    | inr is ↦ subst IsAlone (sym (same_is word (codes "finish") is)) ((refl, refl), refl)
  ]
  | inr is ↦ subst IsAlone (sym (same_is word (codes "publish") is)) ((refl, refl), refl)
]

abbrev TakesSlot : Word → Type 0
TakesSlot word = IsKeyword word × ((a : Word) → by_words (word ∷ (a ∷ [])) ≡ slot_command (number_of a))

slot_keyword : (word : Word) → comes_with_slot word ≡ true → TakesSlot word
slot_keyword word comes = elim (or_else _ _ comes) [
  | inl is ↦ subst TakesSlot (sym (same_is word (codes "hand") is)) ((refl, refl), λ a. refl)
  | inr is ↦ subst TakesSlot (sym (same_is word (codes "put") is)) ((refl, refl), λ a. refl)
]

module _ (feed : Feed) (text : Word) where
  table_read : (c : Command) → IsInTable feed text c → line_command feed text ≡ c
  table_read _ (blank is) = ap (by_start feed) is
  table_read _ (comment rest is) = ap (by_start feed) is
  table_read _ (commit message is some) = ap (by_start feed) is ∙ rw some refl
  table_read _ (settle is) = by_keyword feed text _ _ is (refl, refl)
  table_read _ (status is) = by_keyword feed text _ _ is (refl, refl)
  table_read _ (node number capacity mode n c is) =
      by_keyword feed text _ _ is (refl, refl)
      ∙ rw (read_decimal number (node_small number n), read_decimal capacity (capacity_small capacity c), mode_read mode, n, c) refl
  table_read _ (deliver number n is) = by_keyword feed text _ _ is (refl, refl) ∙ rw (read_decimal number (node_small number n), n) refl
  table_read _ (get number pass path n small good is) =
      by_keyword feed text _ _ is (refl, refl) ∙ rw (read_decimal number (node_small number n), read_decimal pass small, n, good) refl
  table_read _ (evict number path n good is) = by_keyword feed text _ _ is (refl, refl) ∙ rw (read_decimal number (node_small number n), n, good) refl
  table_read _ (alone word comes is) =
      let k : IsAlone word = alone_keyword word comes in
      by_keyword feed text word [] is k.0 ∙ k.1
  table_read _ (with_slot word slot comes n is) =
      let k : TakesSlot word = slot_keyword word comes in
      by_keyword feed text word _ is k.0 ∙ k.1 (decimal slot) ∙ rw (read_decimal slot (slot_small slot n), n) refl

  message_says : (m : Result Commit FeedRefusal) → of_message m ≡ command.Bad → ⊥
  message_says (Ok said) bad = absurd (cc)
  message_says (Err why) bad = absurd (cc)

  never_bad : (c : Command) → IsInTable feed text c → c ≡ command.Bad → ⊥
  never_bad _ (blank is) bad = absurd (cc)
  never_bad _ (comment rest is) bad = absurd (cc)
  never_bad _ (commit message is some) bad = message_says (feed message) bad
  never_bad _ (settle is) bad = absurd (cc)
  never_bad _ (status is) bad = absurd (cc)
  never_bad _ (node number capacity mode n c is) bad = absurd (cc)
  never_bad _ (deliver number n is) bad = absurd (cc)
  never_bad _ (get number pass path n small good is) bad = absurd (cc)
  never_bad _ (evict number path n good is) bad = absurd (cc)
  never_bad _ (alone word comes is) bad = absurd (cc)
  never_bad _ (with_slot word slot comes n is) bad = absurd (cc)

pub others_are_bad : OthersAreBad
others_are_bad feed text = (
  λ bad c row. never_bad feed text c row (sym (table_read feed text c row) ∙ bad),
  λ none. elim (only_the_table feed text) [
    | inl row ↦ absurd (none (line_command feed text) row)
    | inr bad ↦ bad
  ],
)
