-- Laws of single bytes.
use mathlib.Core.Path.{◌≡◌, refl, ap, ◌∙◌}
use mathlib.Core.Logic.{⊎_elim}
use mathlib.Core.Bool.{Bool, true, false, ◌||◌}
use Prim.Native.Nat.{ℕ}
use borrow.Author.Tests.{eqb-true}
use lib.Dec.{eqb}
use Rattle.word.specs.Choice.{pick}
use Rattle.word.proofs.Choice.{never_both, is_false, or_true}
use Rattle.tokens.specs.Tokens.{is_word_byte, is_blank, starts_word, goes_on}

-- a byte that a test takes is none that it does not take
pub apart : (f : ℕ → Bool) (a b : ℕ) → f a ≡ false → f b ≡ true → eqb b a ≡ false
apart f a b e h = is_false (eqb b a) (λ p. never_both h (ap f (eqb-true b a p) ∙ e))

pub blank_starts_none : (b : ℕ) → is_blank b ≡ true → starts_word b ≡ false
blank_starts_none b e =
    ⊎_elim
    (λ p. ⊎_elim (λ q. ap starts_word (eqb-true b 32 q)) (λ q. ap starts_word (eqb-true b 9 q)) (or_true (eqb b 32) (eqb b 9) p))
    (λ q. ap starts_word (eqb-true b 13 q))
    (or_true (eqb b 32 || eqb b 9) (eqb b 13) e)

-- a byte that goes on from b: a semicolon from a semicolon, a word byte from any other
on_cases : (t : Bool) (c : ℕ) → pick t (eqb c 59) (is_word_byte c) ≡ true → (starts_word c ≡ true) × (eqb c 59 ≡ t)
on_cases true c h = (ap starts_word (eqb-true c 59 h), h)
on_cases false c h = (rw h, apart is_word_byte 59 c refl h)

pub on_starts : (b c : ℕ) → goes_on b c ≡ true → starts_word c ≡ true
on_starts b c h = (on_cases (eqb b 59) c h).0

-- from it the same bytes go on
pub on_same : (b c : ℕ) → goes_on b c ≡ true → goes_on c ≡ goes_on b
on_same b c h = ap {B = ℕ → Bool} (λ (t : Bool) (d : ℕ). pick t (eqb d 59) (is_word_byte d)) (on_cases (eqb b 59) c h).1
