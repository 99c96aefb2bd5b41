-- Some first lines of a reading, and one more.
use Rattle.std.proofs.Common.{◌≡◌, ℕ, zero, suc, ◌+◌, Bool, true, false, refl, sym, ap, ◌∙◌, subst, List, [], ◌∷◌, ◌++◌, if◌then◌else◌}
use Rattle.dup_names.specs.Lines.{Reading, Whole, Next, LongLine, LongInput, line}
use Rattle.dup_names.specs.Words.{Word}
use Rattle.dup_transcript.specs.Beginnings.{behind_lines, first_lines, has_end}
use Rattle.dup_transcript.specs.Commands.{Command}
use Rattle.dup_transcript.specs.Inputs.{is_end, script, site_is_read, site_lines, site_text}
use Rattle.dup_transcript.specs.Transcript.{commands, ending, too_long}

-- one line more
pub line_behind : (n : ℕ) (all rest : Reading) (text : Word) → behind_lines n all ≡ Next text rest → behind_lines (suc n) all ≡ rest
line_behind zero all rest text is = subst (λ (r : Reading). behind_lines (suc zero) r ≡ rest) (sym is) refl
line_behind (suc n) (Next t more) rest text is = line_behind n more rest text is
line_behind (suc n) Whole rest text is = absurd (cc)
line_behind (suc n) (LongLine k) rest text is = absurd (cc)
line_behind (suc n) LongInput rest text is = absurd (cc)

pub command_behind : (asks : Word → Command) (n : ℕ) (all rest : Reading) (text : Word) → behind_lines n all ≡ Next text rest
    → commands asks (first_lines (suc n) all) ≡ commands asks (first_lines n all) ++ asks text ∷ []
command_behind asks zero all rest text is = subst (λ (r : Reading). commands asks (first_lines (suc zero) r) ≡ asks text ∷ []) (sym is) refl
command_behind asks (suc n) (Next t more) rest text is = ap (λ (cs : List Command). asks t ∷ cs) (command_behind asks n more rest text is)
command_behind asks (suc n) Whole rest text is = absurd (cc)
command_behind asks (suc n) (LongLine k) rest text is = absurd (cc)
command_behind asks (suc n) LongInput rest text is = absurd (cc)

-- what is too long is told by the lines behind
pub long_behind : (n : ℕ) (all : Reading) → too_long all ≡ too_long (behind_lines n all)
long_behind zero all = refl
long_behind (suc n) (Next t more) = long_behind n more
long_behind (suc n) Whole = refl
long_behind (suc n) (LongLine k) = refl
long_behind (suc n) LongInput = refl

-- no line ends the site text, and none does either where a line more is another
pub end_behind : (n : ℕ) (all rest : Reading) (text : Word) → behind_lines n all ≡ Next text rest → is_end text ≡ false → has_end (first_lines n all) ≡ false
    → has_end (first_lines (suc n) all) ≡ false
end_behind zero all rest text is other none =
    subst (λ (r : Reading). has_end (first_lines (suc zero) r) ≡ false) (sym is) (ap (λ (b : Bool). if b then true else false) other)
end_behind (suc n) (Next t more) rest text is other none = by_end (is_end t) refl (end_behind n more rest text is other)
  where
    by_end : (b : Bool) → is_end t ≡ b → (has_end (first_lines n more) ≡ false → has_end (first_lines (suc n) more) ≡ false) → (if is_end t then true else has_end (first_lines (suc n) more)) ≡ false
    by_end true ends rest_of =
        let e : true ≡ false = sym (ap (λ (c : Bool). if c then true else has_end (first_lines n more)) ends) ∙ none in absurd (cc)
    by_end false ends rest_of =
        ap (λ (c : Bool). if c then true else has_end (first_lines (suc n) more)) ends ∙ rest_of (sym (ap (λ (c : Bool). if c then true else has_end (first_lines n more)) ends) ∙ none)
end_behind (suc n) Whole rest text is other none = absurd (cc)
end_behind (suc n) (LongLine k) rest text is other none = absurd (cc)
end_behind (suc n) LongInput rest text is other none = absurd (cc)

-- so many first lines of an input are so many first lines behind its site text
pub record IsPlaced (n m : ℕ) (all : Reading) : Type 0 where
  pub ends : has_end (first_lines m all) ≡ true
  pub text : site_text (first_lines m all) ≡ site_text all
  pub lines : site_lines (first_lines m all) ≡ site_lines all
  pub there : script (first_lines m all) ≡ first_lines n (script all)
  pub behind : behind_lines m all ≡ behind_lines n (script all)

pub placed : (n : ℕ) (all : Reading) → has_end all ≡ true → (m : ℕ) × IsPlaced n m all
placed n Whole ends = absurd (cc)
placed n (LongLine k) ends = absurd (cc)
placed n LongInput ends = absurd (cc)
placed n (Next t rest) ends = by_end (is_end t) refl (placed n rest)
  where
    by_end : (b : Bool) → is_end t ≡ b → (has_end rest ≡ true → (m : ℕ) × IsPlaced n m rest) → (m : ℕ) × IsPlaced n m (Next t rest)
    by_end true is behind = (
      suc n,
      record {
        ends = ap (λ (c : Bool). if c then true else has_end (first_lines n rest)) is;
        text = ap (λ (c : Bool). if c then [] else (line t ++ site_text (first_lines n rest))) is ∙ sym (ap (λ (c : Bool). if c then [] else (line t ++ site_text rest)) is);
        lines = ap (λ (c : Bool). if c then 1 else (1 + site_lines (first_lines n rest))) is ∙ sym (ap (λ (c : Bool). if c then 1 else (1 + site_lines rest)) is);
        there = ap (λ (c : Bool). if c then first_lines n rest else script (first_lines n rest)) is ∙ sym (ap (λ (c : Bool). first_lines n (if c then rest else script rest)) is);
        behind = sym (ap (λ (c : Bool). behind_lines n (if c then rest else script rest)) is);
      },
    )
    by_end false is behind =
        let more = behind (sym (ap (λ (c : Bool). if c then true else has_end rest) is) ∙ ends) in
        let m : ℕ = more.0 in (
          suc m,
          record {
            ends = ap (λ (c : Bool). if c then true else has_end (first_lines m rest)) is ∙ more.1.ends;
            text = ap (λ (w : Word). if is_end t then [] else (line t ++ w)) more.1.text;
            lines = ap (λ (k : ℕ). if is_end t then 1 else (1 + k)) more.1.lines;
            there = ap (λ (c : Bool). if c then first_lines m rest else script (first_lines m rest)) is ∙ more.1.there ∙ sym (ap (λ (c : Bool). first_lines n (if c then rest else script rest)) is);
            behind = more.1.behind ∙ sym (ap (λ (c : Bool). behind_lines n (if c then rest else script rest)) is);
          },
        )
