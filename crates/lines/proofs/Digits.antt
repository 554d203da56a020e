-- Laws of digits: what a digit is, and how a number grows by one.
use mathlib.Core.Path.{◌≡◌, refl}
use mathlib.Core.Logic.{◌⊎◌, inl, inr, ⊎_elim}
use mathlib.Core.Bool.{Bool, true, false, ◌&&◌}
use mathlib.Core.List.{List, [], ◌∷◌}
use Prim.Native.Nat.{ℕ, zero, suc, ◌+◌, ◌*◌, ◌^◌, ◌≤◌, ◌<◌}
use native.Mathlib.Nat.{zero-lt-suc, not-suc-le-zero, le_of_suc-le-suc, pow-succ', pow-le-pow_right, mul-le-mul_right, mul_assoc}
use native.Mathlib.Omega.{arith}
use lib.Dec.{leb}
use lib.ListN.{length, get_or, take}
use borrow.Author.Tests.{leb-true, lt-ltb, le-ltb}
use Rattle.word.proofs.Choice.{or_true, and_true}
use Rattle.isa.specs.Syllable.{within}
use Rattle.lines.specs.Digits.{is_digit, digit_of, number_from}
use Rattle.lines.specs.Lines.{every}

between : (a e b : ℕ) → within a e b ≡ true → (a ≤ b) × (b ≤ e)
between a e b h = let p = and_true (leb a b) (leb b e) h in (leb-true a b p.0, leb-true b e p.1)

pub is_digit_lem : (b : ℕ) → is_digit b ≡ true → ((48 ≤ b) × (b ≤ 57)) ⊎ ((65 ≤ b) × (b ≤ 70))
is_digit_lem b h = ⊎_elim (λ p. inl (between 48 57 b p)) (λ p. inr (between 65 70 b p)) (or_true (within 48 57 b) (within 65 70 b) h)

pub digit_lt : (b : ℕ) → is_digit b ≡ true → digit_of b < 16
digit_lt b h = ⊎_elim (λ p. rw (lt-ltb b 58 (omega arith)) (omega arith)) (λ p. rw (le-ltb b 58 (omega arith)) (omega arith)) (is_digit_lem b h)

and_one : (t : Bool) → t && true ≡ t
and_one true = refl
and_one false = refl

and_join : (a c d : Bool) {b : Bool} → b ≡ c && d → a && b ≡ (a && c) && d
and_join true c d e = e
and_join false c d e = refl

pub every_snoc : {A : Type 0} (f : A → Bool) (l : List A) (i : ℕ) (d : A) → i < length l → every f (take (suc i) l) ≡ every f (take i l) && f (get_or l i d)
every_snoc f [] i d h = absurd (not-suc-le-zero h)
every_snoc f (x ∷ l) zero d h = and_one (f x)
every_snoc f (x ∷ l) (suc i) d h = and_join (f x) (every f (take i l)) (f (get_or l i d)) (every_snoc f l i d (le_of_suc-le-suc h))

pub digits_fit : (v i n : ℕ) → v < 16 ^ i → i ≤ n → v < 16 ^ n
digits_fit v i n h k = let e : 16 ^ i ≤ 16 ^ n = pow-le-pow_right (zero-lt-suc 15) k in omega arith

pub every_at : {A : Type 0} (f : A → Bool) (l : List A) (i : ℕ) (d : A) → every f l ≡ true → i < length l → f (get_or l i d) ≡ true
every_at f [] i d e h = absurd (not-suc-le-zero h)
every_at f (x ∷ l) zero d e h = (and_true (f x) (every f l) e).0
every_at f (x ∷ l) (suc i) d e h = every_at f l i d (and_true (f x) (every f l) e).1 (le_of_suc-le-suc h)

-- n digits stand for a number below 16 ^ n
pub number_lt : (v : ℕ) (l : List ℕ) → every is_digit l ≡ true → number_from v l < (v + 1) * 16 ^ length l
number_lt v [] e = omega arith
number_lt v (b ∷ l) e =
    let p = and_true (is_digit b) (every is_digit l) e in
    let rest = number_lt (v * 16 + digit_of b) l p.1 in
    let less : (v * 16 + digit_of b + 1) * 16 ^ length l ≤ (v + 1) * 16 * 16 ^ length l =
    mul-le-mul_right (16 ^ length l) (let d = digit_lt b p.0 in omega arith) in
    let same : (v + 1) * 16 ^ suc (length l) ≡ (v + 1) * 16 * 16 ^ length l = rw (pow-succ' 16 (length l), mul_assoc) in
    rw same (omega arith)
