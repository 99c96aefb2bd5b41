-- Each line is one of the table, or is bad.
use Rattle.std.proofs.Common.{◌≡◌, ◌⊎◌, inl, inr, ℕ, Bool, true, false, ◌&&◌, List, [], ◌∷◌, ◌++◌, refl, sym, ap, ◌∙◌}
use Rattle.std.specs.Prelude.{Option, Some, None, codes, drop, if◌then◌else◌, length, nat_eq, take}
use Rattle.std.specs.Fmt.{decimal}
use Rattle.std.proofs.lemmas.List.{take-append-drop}
use Rattle.std.specs.List.{list_all}
use Rattle.std.proofs.lemmas.Bool.{and_parts, eqb-true}
use Rattle.std.proofs.lemmas.Option.{none-some, same_Some}
use Rattle.std.proofs.lemmas.Slice.Eq.{bytes_eq-Decides}
use Rattle.dup_names.specs.Grammar.{is_path}
use Rattle.dup_names.specs.LineWords.{is_space, line_words, trimmed}
use Rattle.dup_names.specs.Words.{Word, same}
use Rattle.dup_template.specs.Good.{behind}
use Rattle.dup_model.specs.declared.mode.Mode.{Mode}
use Rattle.dup_model.specs.declared.mode.Mode.TheVariants.{Invalidate, Update}
use Rattle.dup_transcript.specs.declared.command.Command.TheVariants as command
use Rattle.dup_transcript.specs.CommandTable.{mode_word}
use Rattle.dup_transcript.specs.Commands.{Command, Feed, by_message, by_start, by_words, comes_alone, comes_with_slot, deliver_command, evict_command, get_command, if_more, is_capacity, is_node, is_slot, message_of, mode_of, node_command, of_message, one_word, slot_command, two_words, three_words, four_words}
use Rattle.dup_transcript.specs.Numbers.{number_of}
use Rattle.dup_transcript.specs.OnlyTable.{IsInTable, OnlyTheTable}
use Rattle.dup_transcript.specs.OnlyTable.IsInTable.{alone, blank, comment, commit, settle, status, node, deliver, get, evict, with_slot}
use Rattle.dup_transcript.proofs.Numbers.{numbers_are_decimal}

pub same_is : (a b : Word) → same a b ≡ true → a ≡ b
same_is a b h = (bytes_eq-Decides a b).0 h

words_spaced : (b : ℕ) (bs : Word) → is_space b ≡ true → line_words (b ∷ bs) ≡ line_words bs
words_spaced b bs h = rw h refl

pub words_trimmed : (text : Word) → line_words (trimmed text) ≡ line_words text
words_trimmed [] = refl
words_trimmed (b ∷ bs) = by_test (is_space b) refl (words_trimmed bs)
  where
    by_test : (t : Bool) → is_space b ≡ t → line_words (trimmed bs) ≡ line_words bs → line_words (if t then trimmed bs else b ∷ bs) ≡ line_words (b ∷ bs)
    by_test true is rest = rest ∙ sym (words_spaced b bs is)
    by_test false is rest = refl

mode_back : (w : Word) (m : Mode) → mode_of w ≡ Some m → w ≡ mode_word m
mode_back w m is = by_update (same w (codes "update")) refl is
  where
    by_invalidate : (t : Bool) → same w (codes "invalidate") ≡ t → (if t then Some Invalidate else None) ≡ Some m → w ≡ mode_word m
    by_invalidate true one is = same_is w (codes "invalidate") one ∙ ap mode_word (same_Some Invalidate m is)
    by_invalidate false one is = absurd (none-some m is)

    by_update : (t : Bool) → same w (codes "update") ≡ t → (if t then Some Update else (if same w (codes "invalidate") then Some Invalidate else None)) ≡ Some m → w ≡ mode_word m
    by_update true one is = same_is w (codes "update") one ∙ ap mode_word (same_Some Update m is)
    by_update false one is = by_invalidate (same w (codes "invalidate")) refl is

pub behind_is : (front text rest : Word) → behind front text ≡ Some rest → text ≡ front ++ rest
behind_is front text rest is = by_test (same (take (length front) text) front) refl is
  where
    by_test : (t : Bool) → same (take (length front) text) front ≡ t → (if t then Some (drop (length front) text) else None) ≡ Some rest → text ≡ front ++ rest
    by_test true one is =
        sym (take-append-drop (length front) text)
        ∙ (λ i. same_is (take (length front) text) front one i ++ same_Some (drop (length front) text) rest is i)
    by_test false one is = absurd (none-some rest is)

module _ (feed : Feed) (text : Word) where
  abbrev Either : Command → Type 0
  Either c = IsInTable feed text c ⊎ (c ≡ command.Bad)

  node_case : (a b c : Word) → line_words text ≡ codes "node" ∷ (a ∷ (b ∷ (c ∷ []))) →
      (x y : Option ℕ) (z : Option Mode) → number_of a ≡ x → number_of b ≡ y → mode_of c ≡ z → Either (node_command x y z)
  node_case a b c words None y z p q r = inr refl
  node_case a b c words (Some n) None z p q r = inr refl
  node_case a b c words (Some n) (Some k) None p q r = inr refl
  node_case a b c words (Some n) (Some k) (Some m) p q r = by_test (is_node n && is_capacity k) refl
    where
      here : line_words text ≡ codes "node" ∷ (decimal n ∷ (decimal k ∷ (mode_word m ∷ [])))
      here = words ∙ (λ i. codes "node" ∷ (((numbers_are_decimal a n).0 p).0 i ∷ (((numbers_are_decimal b k).0 q).0 i ∷ (mode_back c m r i ∷ []))))

      by_test : (t : Bool) → (is_node n && is_capacity k) ≡ t → Either (if t then command.Node n k m else command.Bad)
      by_test true is = inl (node n k m (and_parts _ _ is).0 (and_parts _ _ is).1 here)
      by_test false is = inr refl

  get_case : (a b path : Word) → line_words text ≡ codes "get" ∷ (a ∷ (b ∷ (path ∷ []))) →
      (x y : Option ℕ) → number_of a ≡ x → number_of b ≡ y → Either (get_command x y path)
  get_case a b path words None y p q = inr refl
  get_case a b path words (Some n) None p q = inr refl
  get_case a b path words (Some n) (Some pass) p q = by_test (is_node n && is_path path) refl
    where
      here : line_words text ≡ codes "get" ∷ (decimal n ∷ (decimal pass ∷ (path ∷ [])))
      here = words ∙ (λ i. codes "get" ∷ (((numbers_are_decimal a n).0 p).0 i ∷ (((numbers_are_decimal b pass).0 q).0 i ∷ (path ∷ []))))

      by_test : (t : Bool) → (is_node n && is_path path) ≡ t → Either (if t then command.Get n pass path else command.Bad)
      by_test true is = inl (get n pass path (and_parts _ _ is).0 ((numbers_are_decimal b pass).0 q).1 (and_parts _ _ is).1 here)
      by_test false is = inr refl

  deliver_case : (a : Word) → line_words text ≡ codes "deliver" ∷ (a ∷ []) → (x : Option ℕ) → number_of a ≡ x → Either (deliver_command x)
  deliver_case a words None p = inr refl
  deliver_case a words (Some n) p = by_test (is_node n) refl
    where
      by_test : (t : Bool) → is_node n ≡ t → Either (if t then command.Deliver n else command.Bad)
      by_test true is = inl (deliver n is (words ∙ (λ i. codes "deliver" ∷ (((numbers_are_decimal a n).0 p).0 i ∷ []))))
      by_test false is = inr refl

  evict_case : (a path : Word) → line_words text ≡ codes "evict" ∷ (a ∷ (path ∷ [])) → (x : Option ℕ) → number_of a ≡ x → Either (evict_command x path)
  evict_case a path words None p = inr refl
  evict_case a path words (Some n) p = by_test (is_node n && is_path path) refl
    where
      here : line_words text ≡ codes "evict" ∷ (decimal n ∷ (path ∷ []))
      here = words ∙ (λ i. codes "evict" ∷ (((numbers_are_decimal a n).0 p).0 i ∷ (path ∷ [])))

      by_test : (t : Bool) → (is_node n && is_path path) ≡ t → Either (if t then command.Evict n path else command.Bad)
      by_test true is = inl (evict n path (and_parts _ _ is).0 (and_parts _ _ is).1 here)
      by_test false is = inr refl

  slot_case : (word a : Word) → comes_with_slot word ≡ true → line_words text ≡ word ∷ (a ∷ []) → (x : Option ℕ) → number_of a ≡ x → Either (slot_command x)
  slot_case word a comes words None p = inr refl
  slot_case word a comes words (Some n) p = by_test (is_slot n) refl
    where
      by_test : (t : Bool) → is_slot n ≡ t → Either (if t then command.NotBuilt else command.Bad)
      by_test true is = inl (with_slot word n comes is (words ∙ (λ i. word ∷ (((numbers_are_decimal a n).0 p).0 i ∷ []))))
      by_test false is = inr refl

  one_case : (word : Word) → line_words text ≡ word ∷ [] → Either (one_word word)
  one_case word words = by_settle (same word (codes "settle")) refl
    where
      by_alone : (t : Bool) → comes_alone word ≡ t → Either (if t then command.NotBuilt else command.Bad)
      by_alone true is = inl (alone word is words)
      by_alone false is = inr refl

      by_status : (t : Bool) → same word (codes "status") ≡ t → Either (if t then command.Status else (if comes_alone word then command.NotBuilt else command.Bad))
      by_status true is = inl (status (words ∙ ap (λ w. w ∷ []) (same_is word (codes "status") is)))
      by_status false is = by_alone (comes_alone word) refl

      by_settle : (t : Bool) → same word (codes "settle") ≡ t →
          Either (if t then command.Settle else (if same word (codes "status") then command.Status else (if comes_alone word then command.NotBuilt else command.Bad)))
      by_settle true is = inl (settle (words ∙ ap (λ w. w ∷ []) (same_is word (codes "settle") is)))
      by_settle false is = by_status (same word (codes "status")) refl

  two_case : (word a : Word) → line_words text ≡ word ∷ (a ∷ []) → Either (two_words word a)
  two_case word a words = by_deliver (same word (codes "deliver")) refl
    where
      by_slot : (t : Bool) → comes_with_slot word ≡ t → Either (if t then slot_command (number_of a) else command.Bad)
      by_slot true is = slot_case word a is words (number_of a) refl
      by_slot false is = inr refl

      by_deliver : (t : Bool) → same word (codes "deliver") ≡ t →
          Either (if t then deliver_command (number_of a) else (if comes_with_slot word then slot_command (number_of a) else command.Bad))
      by_deliver true is = deliver_case a (words ∙ ap (λ w. w ∷ (a ∷ [])) (same_is word (codes "deliver") is)) (number_of a) refl
      by_deliver false is = by_slot (comes_with_slot word) refl

  three_case : (word a b : Word) → line_words text ≡ word ∷ (a ∷ (b ∷ [])) → Either (three_words word a b)
  three_case word a b words = by_test (same word (codes "evict")) refl
    where
      by_test : (t : Bool) → same word (codes "evict") ≡ t → Either (if t then evict_command (number_of a) b else command.Bad)
      by_test true is = evict_case a b (words ∙ ap (λ w. w ∷ (a ∷ (b ∷ []))) (same_is word (codes "evict") is)) (number_of a) refl
      by_test false is = inr refl

  four_case : (word a b c : Word) → line_words text ≡ word ∷ (a ∷ (b ∷ (c ∷ []))) → Either (four_words word a b c)
  four_case word a b c words = by_node (same word (codes "node")) refl
    where
      by_get : (t : Bool) → same word (codes "get") ≡ t → Either (if t then get_command (number_of a) (number_of b) c else command.Bad)
      by_get true is = get_case a b c (words ∙ ap (λ w. w ∷ (a ∷ (b ∷ (c ∷ [])))) (same_is word (codes "get") is)) (number_of a) (number_of b) refl refl
      by_get false is = inr refl

      by_node : (t : Bool) → same word (codes "node") ≡ t →
          Either (if t then node_command (number_of a) (number_of b) (mode_of c) else (if same word (codes "get") then get_command (number_of a) (number_of b) c else command.Bad))
      by_node true is = node_case a b c (words ∙ ap (λ w. w ∷ (a ∷ (b ∷ (c ∷ [])))) (same_is word (codes "node") is)) (number_of a) (number_of b) (mode_of c) refl refl refl
      by_node false is = by_get (same word (codes "get")) refl

  words_case : (ws : List Word) → line_words text ≡ ws → Either (by_words ws)
  words_case [] is = inr refl
  words_case (word ∷ []) is = one_case word is
  words_case (word ∷ (a ∷ [])) is = two_case word a is
  words_case (word ∷ (a ∷ (b ∷ []))) is = three_case word a b is
  words_case (word ∷ (a ∷ (b ∷ (c ∷ [])))) is = four_case word a b c is
  words_case (word ∷ (a ∷ (b ∷ (c ∷ (d ∷ ds))))) is = inr refl

  message_case : (line : Word) → trimmed text ≡ line → (o : Option Word) → message_of line ≡ o → Either (by_message feed o line)
  message_case line is None none = words_case (line_words line) (sym (words_trimmed text) ∙ ap line_words is)
  message_case line is (Some message) some = by_rest (behind (codes "commit ") line) refl some
    where
      by_spaces : (rest : Word) → behind (codes "commit ") line ≡ Some rest → (t : Bool) → list_all is_space rest ≡ t → (if t then None else Some rest) ≡ Some message → Either (of_message (feed message))
      by_spaces rest at true all some = absurd (none-some message some)
      by_spaces rest at false not_all some =
          let one : rest ≡ message = same_Some rest message some in
          inl (commit message (is ∙ behind_is (codes "commit ") line rest at ∙ ap (λ m. codes "commit " ++ m) one) (ap (λ m. list_all is_space m) (sym one) ∙ not_all))

      by_rest : (o : Option Word) → behind (codes "commit ") line ≡ o → if_more o ≡ Some message → Either (of_message (feed message))
      by_rest None at some = absurd (none-some message some)
      by_rest (Some rest) at some = by_spaces rest at (list_all is_space rest) refl some

  start_case : (line : Word) → trimmed text ≡ line → Either (by_start feed line)
  start_case [] is = inl (blank is)
  start_case (b ∷ rest) is = by_test (nat_eq b 35) refl
    where
      by_test : (t : Bool) → nat_eq b 35 ≡ t → Either (if t then command.Blank else by_message feed (message_of (b ∷ rest)) (b ∷ rest))
      by_test true one = inl (comment rest (is ∙ ap (λ x. x ∷ rest) (eqb-true b 35 one)))
      by_test false one = message_case (b ∷ rest) is (message_of (b ∷ rest)) refl

pub only_the_table : OnlyTheTable
only_the_table feed text = start_case feed text (trimmed text) refl
