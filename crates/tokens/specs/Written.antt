-- How tokens are written on a line, without a reader: "A token is the longest that can be read where it begins, and blanks may stand between any two."
use Rattle.std.specs.Prelude.{◌≡◌, true, false, List, [], ◌∷◌, ◌++◌, ℕ, eqb}
use Rattle.lines.specs.Lines.{every}
use Rattle.tokens.specs.Tokens.{Token, Word, Mark, is_blank, starts_word, goes_on, first}

pub data Written : List Token → List ℕ → Type 0 where
  end : Written [] []
  comment : {s : List ℕ} → Written [] (35 ∷ s)
  blank : {b : ℕ} {ts : List Token} {s : List ℕ} → is_blank b ≡ true → Written ts s → Written ts (b ∷ s)
  mark : {b : ℕ} {ts : List Token} {s : List ℕ} → starts_word b ≡ false → is_blank b ≡ false → eqb b 35 ≡ false → Written ts s → Written (Mark b ∷ ts) (b ∷ s)
  word : {b : ℕ} {w : List ℕ} {ts : List Token} {s : List ℕ} → starts_word b ≡ true → every (goes_on b) w ≡ true → first (goes_on b) s ≡ false → Written ts s
      → Written (Word (b ∷ w) ∷ ts) (b ∷ (w ++ s))
