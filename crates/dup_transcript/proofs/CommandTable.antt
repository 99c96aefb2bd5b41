-- What each form of line commands.
use Rattle.std.proofs.Common.{◌≡◌, ℕ, ◌<◌, ◌^◌, refl, ap, ◌∙◌, arith, length, append-nil}
use Rattle.std.specs.Prelude.{Some, true, [], ◌∷◌, ◌++◌, codes}
use Rattle.std.specs.Fmt.{decimal}
use Rattle.std.specs.List.{list_all}
use Rattle.std.proofs.lemmas.Bool.{and_parts, and_from, eqb-true}
use Rattle.std.proofs.lemmas.Bool.Decides.{nat_tests}
use Rattle.std.proofs.lemmas.Fmt.{decimal_nonempty}
use Rattle.dup_names.proofs.LineWords.{is_word_byte, is_word, bytes-of, split-word, words-law, path-word}
use Rattle.dup_names.specs.Grammar.{is_digit, is_path}
use Rattle.dup_names.specs.LineWords.{line_words, is_space, spaced}
use Rattle.dup_names.specs.Words.{Word}
use Rattle.dup_transcript.specs.Commands.{Feed, is_capacity, is_node, is_slot, mode_of, line_command, by_words}
use Rattle.dup_transcript.specs.CommandTable.{EachIsRead, mode_word}
use Rattle.dup_transcript.specs.declared.command.Command.TheVariants.{Bad, Settle, Status, Node, Deliver, Get, Evict, NotBuilt}
use Rattle.dup_model.specs.declared.mode.Mode.{Mode}
use Rattle.dup_model.specs.declared.mode.Mode.TheVariants.{Invalidate, Update}
use Rattle.dup_transcript.proofs.Numbers.{read_decimal, decimal_digits}

-- a word that numbers, modes or paths follow
words_of_two : (a b : Word) → is_word a ≡ true → is_word b ≡ true → line_words (spaced (a ∷ b ∷ [])) ≡ a ∷ b ∷ []
words_of_two a b p q = words-law (a ∷ b ∷ []) (rw (p, q) refl)

words_of_three : (a b c : Word) → is_word a ≡ true → is_word b ≡ true → is_word c ≡ true → line_words (spaced (a ∷ b ∷ c ∷ [])) ≡ a ∷ b ∷ c ∷ []
words_of_three a b c p q r = words-law (a ∷ b ∷ c ∷ []) (rw (p, q, r) refl)

words_of_four : (a b c d : Word) → is_word a ≡ true → is_word b ≡ true → is_word c ≡ true → is_word d ≡ true
    → line_words (spaced (a ∷ b ∷ c ∷ d ∷ [])) ≡ a ∷ b ∷ c ∷ d ∷ []
words_of_four a b c d p q r s = words-law (a ∷ b ∷ c ∷ d ∷ []) (rw (p, q, r, s) refl)

no_words : (spaces : Word) → list_all is_space spaces ≡ true → line_words spaces ≡ []
no_words [] h = refl
no_words (b ∷ spaces) h =
    let both = and_parts (is_space b) (list_all is_space spaces) h in
    rw (both.0, no_words spaces both.1) refl

-- spaces behind a keyword are skipped
before_spaces : (w spaces : Word) → is_word w ≡ true → list_all is_space spaces ≡ true → line_words (w ++ spaces) ≡ w ∷ []
before_spaces w [] p h = rw append-nil (words-law (w ∷ []) (rw p refl))
before_spaces [] (b ∷ spaces) p h = cc
before_spaces (a ∷ w) (b ∷ spaces) p h =
    let both = and_parts (is_space b) (list_all is_space spaces) h in
    rw (eqb-true b 32 both.0, split-word (a ∷ w) spaces (bytes-of (a ∷ w) p)) (ap (λ ws. (a ∷ w) ∷ ws) (no_words spaces both.1))

-- numbers and modes are words
digit_byte : (b : ℕ) → is_digit b ≡ true → is_word_byte b ≡ true
digit_byte b h = grind (arith, nat_tests)

digit_bytes : (w : Word) → list_all is_digit w ≡ true → list_all is_word_byte w ≡ true
digit_bytes [] h = refl
digit_bytes (b ∷ w) h =
    let both = and_parts (is_digit b) (list_all is_digit w) h in
    and_from (is_word_byte b) (list_all is_word_byte w) (digit_byte b both.0) (digit_bytes w both.1)

filled_word : (w : Word) → 0 < length w → list_all is_word_byte w ≡ true → is_word w ≡ true
filled_word [] some h = absurd (omega arith)
filled_word (b ∷ w) some h = h

decimal_word : (n : ℕ) → n < 2 ^ 64 → is_word (decimal n) ≡ true
decimal_word n small = filled_word (decimal n) (decimal_nonempty n small) (digit_bytes (decimal n) (decimal_digits n))

mode_is_word : (mode : Mode) → is_word (mode_word mode) ≡ true
mode_is_word Update = refl
mode_is_word Invalidate = refl

pub mode_read : (mode : Mode) → mode_of (mode_word mode) ≡ Some mode
mode_read Update = refl
mode_read Invalidate = refl

pub node_small : (n : ℕ) → is_node n ≡ true → n < 2 ^ 64
node_small n h = grind (arith, nat_tests)

pub slot_small : (n : ℕ) → is_slot n ≡ true → n < 2 ^ 64
slot_small n h = grind (arith, nat_tests)

pub capacity_small : (n : ℕ) → is_capacity n ≡ true → n < 2 ^ 64
capacity_small n h = grind (arith, nat_tests)

module _ (feed : Feed) where
  no_message_read : (spaces : Word) → list_all is_space spaces ≡ true → line_command feed (codes "commit" ++ spaces) ≡ Bad
  no_message_read [] h = refl
  no_message_read (b ∷ spaces) h =
      let both = and_parts (is_space b) (list_all is_space spaces) h in
      rw (both.0, both.1) (ap by_words (before_spaces (codes "commit") (b ∷ spaces) refl h))

  settle_read : (spaces : Word) → list_all is_space spaces ≡ true → line_command feed (codes "settle" ++ spaces) ≡ Settle
  settle_read spaces h = ap by_words (before_spaces (codes "settle") spaces refl h)

  status_read : (spaces : Word) → list_all is_space spaces ≡ true → line_command feed (codes "status" ++ spaces) ≡ Status
  status_read spaces h = ap by_words (before_spaces (codes "status") spaces refl h)

  begin_read : (spaces : Word) → list_all is_space spaces ≡ true → line_command feed (codes "begin" ++ spaces) ≡ NotBuilt
  begin_read spaces h = ap by_words (before_spaces (codes "begin") spaces refl h)

  join_read : (spaces : Word) → list_all is_space spaces ≡ true → line_command feed (codes "join" ++ spaces) ≡ NotBuilt
  join_read spaces h = ap by_words (before_spaces (codes "join") spaces refl h)

  finish_read : (spaces : Word) → list_all is_space spaces ≡ true → line_command feed (codes "finish" ++ spaces) ≡ NotBuilt
  finish_read spaces h = ap by_words (before_spaces (codes "finish") spaces refl h)

  publish_read : (spaces : Word) → list_all is_space spaces ≡ true → line_command feed (codes "publish" ++ spaces) ≡ NotBuilt
  publish_read spaces h = ap by_words (before_spaces (codes "publish") spaces refl h)

  hand_read : (slot : ℕ) → is_slot slot ≡ true → line_command feed (spaced (codes "hand" ∷ decimal slot ∷ [])) ≡ NotBuilt
  hand_read slot n =
      let small = slot_small slot n in
      ap by_words (words_of_two (codes "hand") (decimal slot) refl (decimal_word slot small))
      ∙ rw (read_decimal slot small, n) refl

  put_read : (slot : ℕ) → is_slot slot ≡ true → line_command feed (spaced (codes "put" ∷ decimal slot ∷ [])) ≡ NotBuilt
  put_read slot n =
      let small = slot_small slot n in
      ap by_words (words_of_two (codes "put") (decimal slot) refl (decimal_word slot small))
      ∙ rw (read_decimal slot small, n) refl

  node_read : (number capacity : ℕ) (mode : Mode) → is_node number ≡ true → is_capacity capacity ≡ true →
      line_command feed (spaced (codes "node" ∷ decimal number ∷ decimal capacity ∷ mode_word mode ∷ [])) ≡ Node number capacity mode
  node_read number capacity mode n c =
      let small = node_small number n in
      let room = capacity_small capacity c in
      ap by_words (words_of_four (codes "node") (decimal number) (decimal capacity) (mode_word mode) refl (decimal_word number small) (decimal_word capacity room) (mode_is_word mode))
      ∙ rw (read_decimal number small, read_decimal capacity room, mode_read mode, n, c) refl

  deliver_read : (number : ℕ) → is_node number ≡ true → line_command feed (spaced (codes "deliver" ∷ decimal number ∷ [])) ≡ Deliver number
  deliver_read number n =
      let small = node_small number n in
      ap by_words (words_of_two (codes "deliver") (decimal number) refl (decimal_word number small))
      ∙ rw (read_decimal number small, n) refl

  evict_read : (number : ℕ) (path : Word) → is_node number ≡ true → is_path path ≡ true →
      line_command feed (spaced (codes "evict" ∷ decimal number ∷ path ∷ [])) ≡ Evict number path
  evict_read number path n h =
      let small = node_small number n in
      ap by_words (words_of_three (codes "evict") (decimal number) path refl (decimal_word number small) (path-word path h))
      ∙ rw (read_decimal number small, n, h) refl

  get_read : (number pass : ℕ) (path : Word) → is_node number ≡ true → pass < 2 ^ 64 → is_path path ≡ true →
      line_command feed (spaced (codes "get" ∷ decimal number ∷ decimal pass ∷ path ∷ [])) ≡ Get number pass path
  get_read number pass path n p h =
      let small = node_small number n in
      ap by_words (words_of_four (codes "get") (decimal number) (decimal pass) path refl (decimal_word number small) (decimal_word pass p) (path-word path h))
      ∙ rw (read_decimal number small, read_decimal pass p, n, h) refl

pub each_is_read : EachIsRead
each_is_read feed = record {
  nothing = refl;
  space = λ text. refl;
  comment = λ text. refl;
  commit = λ message h. rw h refl;
  no_message = no_message_read feed;
  settle = settle_read feed;
  status = status_read feed;
  node = node_read feed;
  deliver = deliver_read feed;
  get = get_read feed;
  evict = evict_read feed;
  begin = begin_read feed;
  hand = hand_read feed;
  put = put_read feed;
  join = join_read feed;
  finish = finish_read feed;
  publish = publish_read feed;
}
