-- The grammar of expressions, written down without a reader: trees, and how a tree is spelt.
use Rattle.std.specs.Prelude.{◌≡◌, Bool, true, false, ◌&&◌, List, [], ◌∷◌, ◌++◌, ℕ, zero, suc, eqb}
use Rattle.std.proofs.Math.Option.{Option, none, some}
use Rattle.word.specs.Choice.{pick}
use Rattle.lines.specs.Lines.{every}
use Rattle.tokens.specs.Tokens.{Token, Word, Mark, is_decimal, is_letter}

pub data Sign : Type 0 where
  plus minus : Sign

pub data Star : Type 0 where
  star : Star

-- "expression: term, then any number of + term or - term, from the left
--  term:       factor, then any number of * factor, from the left
--  factor:     number, label, or ( expression )"
mutual
  pub data Expression : Type 0 where
    expression : Term → Terms → Expression

  pub data Terms : Type 0 where
    no_terms : Terms
    more_terms : Sign → Term → Terms → Terms

  pub data Term : Type 0 where
    term : Factor → Factors → Term

  pub data Factors : Type 0 where
    no_factors : Factors
    more_factors : Star → Factor → Factors → Factors

  pub data Factor : Type 0 where
    number : List ℕ → Factor
    label : List ℕ → Factor
    brackets : Expression → Factor

abbrev pub sign_byte : Sign → ℕ
sign_byte plus = 43
sign_byte minus = 45

abbrev pub star_byte : Star → ℕ
star_byte star = 42

unfoldable mutual
  pub spell_e : Expression → List Token
  spell_e (expression t ts) = spell_t t ++ spell_ts ts

  pub spell_ts : Terms → List Token
  spell_ts no_terms = []
  spell_ts (more_terms s t ts) = Mark (sign_byte s) ∷ spell_t t ++ spell_ts ts

  pub spell_t : Term → List Token
  spell_t (term f fs) = spell_f f ++ spell_fs fs

  pub spell_fs : Factors → List Token
  spell_fs no_factors = []
  spell_fs (more_factors s f fs) = Mark (star_byte s) ∷ spell_f f ++ spell_fs fs

  pub spell_f : Factor → List Token
  spell_f (number w) = Word w ∷ []
  spell_f (label w) = Word w ∷ []
  spell_f (brackets e) = Mark 40 ∷ spell_e e ++ Mark 41 ∷ []

-- "A number is one or more digits"
abbrev pub is_number : List ℕ → Bool
is_number [] = false
is_number (b ∷ w) = is_decimal b && every is_decimal w

-- "A label is a letter or _, then letters, digits, _, ? or .": of a word, its first byte decides
abbrev pub is_label : List ℕ → Bool
is_label [] = false
is_label (b ∷ w) = is_letter b

-- "Round brackets, at most 16 inside each other": at most d
unfoldable mutual
  pub FitsE : Expression → ℕ → Type 0
  FitsE (expression t ts) d = FitsT t d × FitsTs ts d

  pub FitsTs : Terms → ℕ → Type 0
  FitsTs no_terms d = Unit {0}
  FitsTs (more_terms s t ts) d = FitsT t d × FitsTs ts d

  pub FitsT : Term → ℕ → Type 0
  FitsT (term f fs) d = FitsF f d × FitsFs fs d

  pub FitsFs : Factors → ℕ → Type 0
  FitsFs no_factors d = Unit {0}
  FitsFs (more_factors s f fs) d = FitsF f d × FitsFs fs d

  pub FitsF : Factor → ℕ → Type 0
  FitsF (number w) d = is_number w ≡ true
  FitsF (label w) d = is_label w ≡ true
  FitsF (brackets e) zero = ⊥
  FitsF (brackets e) (suc d) = FitsE e d

-- what an expression may not be followed by, since it would go on there
abbrev pub sign_at : Token → Option Sign
sign_at (Word w) = none
sign_at (Mark b) = pick (eqb b 43) (some plus) (pick (eqb b 45) (some minus) none)

abbrev pub star_at : Token → Option Star
star_at (Word w) = none
star_at (Mark b) = pick (eqb b 42) (some star) none

abbrev pub first : {A : Type 0} → (Token → Option A) → List Token → Option A
first f [] = none
first f (t ∷ ts) = f t

pub record Ends (rest : List Token) : Type 0 where
  pub no_sign : first sign_at rest ≡ none
  pub no_star : first star_at rest ≡ none

-- tokens that begin with an expression, whole, and what stands after it
pub record Stands (d : ℕ) (ts : List Token) (e : Expression) (rest : List Token) : Type 0 where
  pub fits : FitsE e d
  pub spelt : ts ≡ spell_e e ++ rest
  pub ends : Ends rest
