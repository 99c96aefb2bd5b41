-- What is known of a reading.
use Rattle.std.proofs.Common.{◌≡◌, ℕ, zero, suc, get_or, ◌+◌, ◌<◌, ◌≤◌, Bool, true, false, List, [], ◌∷◌, ◌++◌, length, take, drop, map, refl, sym, ap, ◌∙◌, subst, inl, inr, ⊎_elim, arith, if◌then◌else◌}
use Rattle.std.specs.Prelude.{not, Option, Some, None, IsSome, is_some, codes}
use Rattle.std.specs.List.{list_all}
use Rattle.std.proofs.lemmas.Bool.{false≢true, and_parts, ltb-false, lt-leb, le-leb, lt-ltb, le-ltb, or_from, or_parts, or_right, leb-false, cases_lt}
use Rattle.std.proofs.lemmas.List.{append-nil, length-append, length-map, length-take, take_all, take_at, take-take, take-append-le, take-append-drop}
use Rattle.std.proofs.lemmas.List.Sums.{sum_by-take-le}
use Rattle.httparse.specs.Grammar.{RequestHead, ReadsRequest, HasNoRequest, NeverHasRequest, print_request}
use Rattle.httparse.specs.Spans.{name_and_value, span_bytes, header_bytes, IsRequestOf, RequestOverflows}
use Rattle.httparse.specs.declared.spans.HeaderSpan.{HeaderSpan}
use Rattle.httparse.specs.declared.spans.RequestSpans.{RequestSpans}
use Rattle.httparse.proofs.GrammarLemmas.{request_unique, ReadsRequest-append}
use Rattle.dup_names.specs.Words.{Word}
use Rattle.dup_http.specs.declared.ask.Ask.{Ask}
use Rattle.dup_http.specs.declared.ask.Reading.{Reading}
use Rattle.dup_http.specs.declared.ask.Reading.TheVariants.{Complete, More, Bad}
use Rattle.dup_http.specs.Asks.{is_taken, rules, refusal, ask_of, first_broken, values, number_in, max_body}
use Rattle.dup_http.specs.Replies.{reason}
use Rattle.dup_http.specs.Readings.{window, IsInBounds, unless_refused, parts_say, head_says, cut_says, BeginsWith, HasNoHead, is_full, IsOpen, IsUnfinished, Reads, ReadsItsHead, RefusesManyFields, IsPlain}
use Rattle.dup_http.proofs.Feeds.{feeds, feeds-append, feeds-print_request}

-- a head that stands there is the one that was read
pub says_head : (w : List ℕ) (reading : Reading) → Reads w reading → ReadsItsHead w reading
says_head w reading reads h begins = ⊎_elim
    (λ found. let same = request_unique w found.0 h found.1.rest begins.rest found.1.reads begins.reads in found.2 ∙ ap head_says same.0)
    (λ none. absurd (none.0 h begins))
    reads

pub no_head : (w : List ℕ) → HasNoRequest w → HasNoHead w
no_head w none h begins = none h begins.rest begins.reads

pub as_it_is : (w : List ℕ) (h : RequestHead) (rest : List ℕ) → ReadsRequest w h rest → ReadsRequest (w ++ []) h rest
as_it_is w h rest reads = (reads.0, append-nil w ∙ reads.1)

pub no_head_fits : (w : List ℕ) → RequestOverflows 64 w → HasNoHead w
no_head_fits w over h begins =
    let many = over [] h begins.rest (as_it_is w h begins.rest begins.reads) in
    absurd (omega (arith, begins.few))

pub never_a_head : (w : List ℕ) → NeverHasRequest w → HasNoHead w
never_a_head w never h begins = never [] h begins.rest (as_it_is w h begins.rest begins.reads)

-- no head is there: the window is full, or more is wanted
pub reads_unfinished : (w : List ℕ) (reading : Reading) → HasNoHead w → IsOpen w → reading ≡ (if is_full w then Bad 431 else More) → Reads w reading
reads_unfinished w reading none still is = inr (none, by_test (is_full w) refl)
  where
    by_test : (t : Bool) → is_full w ≡ t → IsUnfinished w reading
    by_test true full = let r : reading ≡ Bad 431 = is ∙ ap (λ t. if t then Bad 431 else More) full in
        subst (IsUnfinished w) (sym r) (inr (refl, still, full))
    by_test false room = let r : reading ≡ More = is ∙ ap (λ t. if t then Bad 431 else More) room in
        subst (IsUnfinished w) (sym r) (still, room)

pub reads_refused : (w : List ℕ) → NeverHasRequest w → Reads w (Bad 400)
reads_refused w never = inr (never_a_head w never, inl (refl, never))

-- the parts of a head of the window say what it is read as
pub reads_whole : (w : List ℕ) (spans : List HeaderSpan) (r : RequestSpans) → IsRequestOf w spans r → length spans ≤ 64 → (reading : Reading)
    → reading ≡ parts_say r.version (span_bytes w r.method) (span_bytes w r.path) (map (header_bytes w) (take r.headers spans)) r.len → Reads w reading
reads_whole w spans r of room reading is =
    let h = of.0 in
    let at = of.1 in
    let count : length (map (header_bytes w) (take r.headers spans)) ≡ length (map name_and_value h.fields) = ap length at.fields in
    let few : length h.fields ≤ 64 =
    omega (arith, count, length-map (take r.headers spans) (header_bytes w), length-map h.fields name_and_value, length-take r.headers spans) in
    inl (
      h,
      record { rest = drop r.len w; reads = at.reads; few = few },
      is ∙ (λ i. parts_say (at.version i) (at.method i) (at.path i) (at.fields i) (at.len i)),
    )

-- where more can follow and the window isn't full, more is wanted
wants_more : (w : List ℕ) (reading : Reading) → IsUnfinished w reading → (NeverHasRequest w → ⊥) → is_full w ≡ false → reading ≡ More
wants_more w (Complete ask size) is may room = absurd is
wants_more w More is may room = refl
wants_more w (Bad code) is may room = ⊎_elim (λ never. absurd (may never.1)) (λ full. absurd (false≢true (sym room ∙ full.2))) is

-- where more can follow and the window is full, it is refused
is_too_large : (w : List ℕ) (reading : Reading) → IsUnfinished w reading → (NeverHasRequest w → ⊥) → is_full w ≡ true → reading ≡ Bad 431
is_too_large w (Complete ask size) is may full = absurd is
is_too_large w More is may full = absurd (false≢true (sym is.1 ∙ full))
is_too_large w (Bad code) is may full = ⊎_elim (λ never. absurd (may never.1)) (λ too. ap Bad too.0) is

-- a whole head with too many fields
pub says_many : (w : List ℕ) (reading : Reading) → Reads w reading → RefusesManyFields w reading
says_many w reading reads h rest begins many = ⊎_elim
    (λ found. let same = request_unique w found.0 h found.1.rest rest found.1.reads begins in
    let few : length h.fields ≤ 64 = subst (λ (k : RequestHead). length k.fields ≤ 64) same.0 found.1.few in absurd (omega arith))
    (λ none. is_too_large w reading none.1 (λ never. never [] h rest (as_it_is w h rest begins)) full)
    reads
  where
    full : is_full w ≡ true
    full =
        let count = feeds-print_request h begins.0 in
        let all : feeds w ≡ feeds (print_request h) + feeds rest = ap feeds begins.1 ∙ feeds-append (print_request h) rest in
        or_right _ _ (lt-ltb 66 (feeds w) (omega arith))

rule_kept : (broken : Bool) (code : ℕ) (more : List (Bool × ℕ)) → first_broken ((broken, code) ∷ more) ≡ None → (broken ≡ false) × (first_broken more ≡ None)
rule_kept true code more is = cc
rule_kept false code more is = (refl, is)

-- where none is broken, each is kept
kept_at : (rs : List (Bool × ℕ)) (k : ℕ) (d : Bool × ℕ) → first_broken rs ≡ None → k < length rs → (get_or rs k d).0 ≡ false
kept_at [] k d is within = absurd (omega arith)
kept_at (rule ∷ more) zero d is within = (rule_kept rule.0 rule.1 more is).0
kept_at (rule ∷ more) (suc k) d is within = kept_at more k d (rule_kept rule.0 rule.1 more is).1 (omega arith)

-- a head that isn't refused has no larger body
body_fits : (minor : ℕ) (target : Word) (fields : List (Word × Word)) → refusal minor target fields ≡ None → number_in (values fields (codes "content-length")) ≤ max_body
body_fits minor target fields is =
    ltb-false max_body (number_in (values fields (codes "content-length")))
    (kept_at ((not (list_all is_taken fields), 400) ∷ rules minor target (values fields)) 5 (false, 400) is (omega arith))

code_of : (P : ℕ → Bool) (rs : List (Bool × ℕ)) (code : ℕ) → list_all (λ r. P r.1) rs ≡ true → first_broken rs ≡ Some code → P code ≡ true
code_of P [] code each is = cc
code_of P (rule ∷ more) code each is = by_test (code_of P more code both.1) rule.0 refl
  where
    both : (P rule.1 ≡ true) × (list_all (λ r. P r.1) more ≡ true)
    both = and_parts (P rule.1) (list_all (λ r. P r.1) more) each

    by_test : (first_broken more ≡ Some code → P code ≡ true) → (t : Bool) → rule.0 ≡ t → P code ≡ true
    by_test others true broken =
        let here : Some rule.1 ≡ Some code = sym (ap (λ t. if t then Some rule.1 else first_broken more) broken) ∙ is in
        let same : rule.1 ≡ code = cc in
        ap P (sym same) ∙ both.0
    by_test others false kept = others (sym (ap (λ t. if t then Some rule.1 else first_broken more) kept) ∙ is)

-- each refusal has a reason
refusal_has_reason : (minor : ℕ) (target : Word) (fields : List (Word × Word)) (code : ℕ) → refusal minor target fields ≡ Some code → IsSome (reason code)
refusal_has_reason minor target fields code is =
    code_of (λ c. is_some (reason c)) ((not (list_all is_taken fields), 400) ∷ rules minor target (values fields)) code refl is

bounds-by : (n : ℕ) (o : Option ℕ) (ask : Ask) (size : ℕ) → (o ≡ None → ask.body ≤ max_body) → ((code : ℕ) → o ≡ Some code → IsSome (reason code)) → size ≤ n
    → IsInBounds n (unless_refused o ask size)
bounds-by n None ask size body known fits = (fits, body refl)
bounds-by n (Some code) ask size body known fits = known code refl

unfinished_in_bounds : (bytes : List ℕ) (reading : Reading) → IsUnfinished (window bytes) reading → IsInBounds (length bytes) reading
unfinished_in_bounds bytes (Complete ask size) is = absurd is
unfinished_in_bounds bytes More is =
    let short = leb-false 8192 (length (window bytes)) (or_parts _ _ is.1).0 in
    omega (arith, length-take 8192 bytes)
unfinished_in_bounds bytes (Bad code) is = ⊎_elim
    (λ never. subst (λ (c : ℕ). IsSome (reason c)) (sym never.0) refl)
    (λ full. subst (λ (c : ℕ). IsSome (reason c)) (sym full.0) refl)
    is

pub says_in_bounds : (bytes : List ℕ) (reading : Reading) → Reads (window bytes) reading → IsInBounds (length bytes) reading
says_in_bounds bytes reading reads = ⊎_elim
    (λ found. let h = found.0 in
    let fields = map name_and_value h.fields in
    let size : length (print_request h) ≤ length bytes =
    omega (arith, ap length found.1.reads.1, length-append (print_request h) found.1.rest, length-take 8192 bytes) in
    subst (IsInBounds (length bytes)) (sym found.2)
    (bounds-by (length bytes) (refusal h.minor h.target fields) (ask_of h.method h.target (values fields)) (length (print_request h)) (body_fits h.minor h.target fields) (refusal_has_reason h.minor h.target fields) size))
    (λ none. unfinished_in_bounds bytes reading none.1)
    reads

-- the bytes end inside the head
module _ (bytes more rest : List ℕ) (h : RequestHead) (plain : IsPlain h) (same : bytes ++ more ≡ print_request h ++ rest) where
  begins_later : ReadsRequest (bytes ++ more) h rest
  begins_later = (plain.head, same)

  abbrev size : ℕ
  size = length (print_request h)

  inside : length bytes < size → bytes ≡ take (length bytes) (print_request h)
  inside short =
      sym (take_at bytes more (length bytes) refl) ∙ ap (take (length bytes)) same ∙ take-append-le (length bytes) (print_request h) rest (omega arith)

  has_room : length bytes < size → is_full bytes ≡ false
  has_room short =
      let count = feeds-print_request h plain.head in
      let none : length h.blank ≡ 0 = ap length plain.first in
      let some : feeds bytes ≤ feeds (print_request h) =
      subst (λ (bs : List ℕ). feeds bs ≤ feeds (print_request h)) (sym (inside short)) (sum_by-take-le _ (print_request h) (length bytes)) in
      let few = plain.few in
      let fits = plain.short in
      or_from _ _ (lt-leb 8192 (length bytes) (omega arith)) (le-ltb 66 (feeds bytes) (omega arith))

  lacks_head : length bytes < size → (k : RequestHead) → BeginsWith bytes k → ⊥
  lacks_head short k begins =
      let later = ReadsRequest-append bytes k begins.rest more begins.reads in
      let one = request_unique (bytes ++ more) k h (begins.rest ++ more) rest later begins_later in
      let long : size ≤ length bytes =
      subst (λ (x : RequestHead). length (print_request x) ≤ length bytes) one.0 (omega (arith, ap length begins.reads.1, length-append (print_request k) begins.rest)) in
      omega arith

  says_more : (reading : Reading) → Reads bytes reading → length bytes < size → reading ≡ More
  says_more reading reads short = ⊎_elim
      (λ found. absurd (lacks_head short found.0 found.1))
      (λ none. wants_more bytes reading none.1 (λ never. never more h rest begins_later) (has_room short))
      reads

  begins_here : size ≤ length bytes → BeginsWith (window bytes) h
  begins_here long =
      let fits = plain.short in
      let front : take size (window bytes) ≡ print_request h =
      take-take size 8192 bytes fits ∙ sym (take-append-le size bytes more long) ∙ ap (take size) same ∙ take_at (print_request h) rest size refl in
      let all : window bytes ≡ print_request h ++ drop size (window bytes) = sym (take-append-drop size (window bytes)) ∙ ap (λ xs. xs ++ drop size (window bytes)) front in
      record { rest = drop size (window bytes); reads = (plain.head, all); few = plain.few }

  pub says_cut : (reading : Reading) → Reads (window bytes) reading → reading ≡ cut_says h (length bytes)
  says_cut reading reads = ⊎_elim
      (λ short. let whole : window bytes ≡ bytes = take_all 8192 bytes (let fits = plain.short in omega arith) in
      says_more reading (subst (λ (w : List ℕ). Reads w reading) whole reads) short ∙ sym (ap (λ t. if t then head_says h else More) (lt-leb size (length bytes) short)))
      (λ long. says_head (window bytes) reading reads h (begins_here long) ∙ sym (ap (λ t. if t then head_says h else More) (le-leb size (length bytes) long)))
      (cases_lt (length bytes) size)
