-- Operators by their bytes.
use mathlib.Core.Path.{◌≡◌, refl, ap, ◌∙◌}
use mathlib.Core.Bool.{Bool, true, false, ◌||◌}
use mathlib.Core.Option.{none, some}
use Prim.Native.Nat.{ℕ}
use borrow.Author.Tests.{eqb-true, ne_eqb}
use lib.Dec.{eqb}
use Rattle.word.specs.Choice.{pick}
use Rattle.tokens.specs.Tokens.{Token, Word, Mark}
use Rattle.expressions.specs.Grammar.{Sign, plus, minus, Star, star, sign_byte, star_byte, sign_at, star_at}
use Rattle.expressions.specs.Skipped.{is_operator}

-- ---- a sign

pub sign_at_lem : (s : Sign) → sign_at (Mark (sign_byte s)) ≡ some s
sign_at_lem plus = refl
sign_at_lem minus = refl

pub sign_mark : (t : Token) (o : Sign) → sign_at t ≡ some o → t ≡ Mark (sign_byte o)
sign_mark (Word w) o e = cc
sign_mark (Mark b) o e = go (eqb b 43) (eqb b 45) refl refl e
  where
    go : (x y : Bool) → eqb b 43 ≡ x → eqb b 45 ≡ y → pick x (some plus) (pick y (some minus) none) ≡ some o → Mark b ≡ Mark (sign_byte o)
    go true y p q e = let s : plus ≡ o = cc in ap Mark (eqb-true b 43 p ∙ ap sign_byte s)
    go false true p q e = let s : minus ≡ o = cc in ap Mark (eqb-true b 45 q ∙ ap sign_byte s)
    go false false p q e = cc

pub no_sign_lem : (b : ℕ) → (b ≡ 43 → ⊥) → (b ≡ 45 → ⊥) → sign_at (Mark b) ≡ none
no_sign_lem b h k = rw (ne_eqb b 43 h, ne_eqb b 45 k)

-- ---- a star

pub star_at_lem : (s : Star) → star_at (Mark (star_byte s)) ≡ some s
star_at_lem star = refl

pub star_mark : (t : Token) (o : Star) → star_at t ≡ some o → t ≡ Mark (star_byte o)
star_mark (Word w) o e = cc
star_mark (Mark b) o e = go (eqb b 42) refl e
  where
    go : (x : Bool) → eqb b 42 ≡ x → pick x (some star) none ≡ some o → Mark b ≡ Mark (star_byte o)
    go true p e = let s : star ≡ o = cc in ap Mark (eqb-true b 42 p ∙ ap star_byte s)
    go false p e = cc

pub no_star_lem : (b : ℕ) → (b ≡ 42 → ⊥) → star_at (Mark b) ≡ none
no_star_lem b h = rw (ne_eqb b 42 h)

-- ---- either

pub no_operator : (b : ℕ) → sign_at (Mark b) ≡ none → star_at (Mark b) ≡ none → is_operator b ≡ false
no_operator b p q = go (eqb b 43) (eqb b 45) (eqb b 42) p q
  where
    go : (x y z : Bool) → pick x (some plus) (pick y (some minus) none) ≡ none → pick z (some star) none ≡ none → x || y || z ≡ false
    go true y z p q = cc
    go false true z p q = cc
    go false false true p q = cc
    go false false false p q = refl
