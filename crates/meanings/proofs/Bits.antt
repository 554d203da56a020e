-- Bit i of what the bit operations give.
use mathlib.Core.Path.{◌≡◌, refl, sym, ◌∙◌, ap, ap₂, subst}
use mathlib.Core.Bool.{Bool, true, false, not, ◌&&◌, ◌||◌}
use Prim.Native.Nat.{ℕ, zero, suc, ◌+◌, ◌-◌, ◌*◌, ◌/◌, ◌%◌, ◌^◌, ◌<◌, ◌≤◌}
use native.Mathlib.Nat.{le_of_suc-le-suc, not-suc-le-zero, mod-lt, mul_comm, mul-sub, mul-le-mul_right, two-pow-succ, zero-lt-suc}
use native.Mathlib.Omega.{arith}
use lib.Arith.{digits_div}
use lib.Bits.{bit_and, bit_or, bit_xor, and_shr, and_mod, or_shr, or_mod, xor_shr, xor_mod}
use lib.Dec.{eqb}
use lib.Pow.{pow_pos, shr_lt, ones_split, split}
use Rattle.word.specs.Choice.{pick, bit}
use Rattle.meanings.specs.Arith.{inverse}
use Rattle.meanings.specs.Integer.{bit_at}

-- a digit is 0 or 1
digit_ind : (P : ℕ → Type 0) → P 0 → P 1 → (n : ℕ) → n < 2 → P n
digit_ind P p q zero h = p
digit_ind P p q (suc zero) h = q
digit_ind P p q (suc (suc n)) h = absurd (not-suc-le-zero (le_of_suc-le-suc (le_of_suc-le-suc h)))

pub digit : (n : ℕ) → n < 2 → n ≡ bit (eqb n 1)
digit = digit_ind (λ (n : ℕ). n ≡ bit (eqb n 1)) refl refl

-- an operation that works on each digit apart does so at i
module _ (op : ℕ → ℕ → ℕ) (f : Bool → Bool → Bool) (shift : (a b k : ℕ) → op a b / 2 ^ k ≡ op (a / 2 ^ k) (b / 2 ^ k)) (low : (a b k : ℕ) → op a b % 2 ^ k ≡ op (a % 2 ^ k) (b % 2 ^ k)) (one : (p q : Bool) → eqb (op (bit p) (bit q)) 1 ≡ f p q) where
  bitwise : (x y i : ℕ) → bit_at i (op x y) ≡ f (bit_at i x) (bit_at i y)
  bitwise x y i =
      let a = x / 2 ^ i in
      let b = y / 2 ^ i in
      ap (λ (n : ℕ). eqb (n % 2) 1) (shift x y i) ∙ ap (λ (n : ℕ). eqb n 1) (low a b 1)
      ∙ ap₂ (λ (m n : ℕ). eqb (op m n) 1) (digit (a % 2) (mod-lt a (zero-lt-suc 1))) (digit (b % 2) (mod-lt b (zero-lt-suc 1)))
      ∙ one (bit_at i x) (bit_at i y)

one_and : (p q : Bool) → eqb (bit_and (bit p) (bit q)) 1 ≡ p && q
one_and true true = refl
one_and true false = refl
one_and false q = refl

one_or : (p q : Bool) → eqb (bit_or (bit p) (bit q)) 1 ≡ p || q
one_or true true = refl
one_or true false = refl
one_or false true = refl
one_or false false = refl

one_xor : (p q : Bool) → eqb (bit_xor (bit p) (bit q)) 1 ≡ pick p (not q) q
one_xor true true = refl
one_xor true false = refl
one_xor false true = refl
one_xor false false = refl

pub bit_and_lem : (x y i : ℕ) → bit_at i (bit_and x y) ≡ bit_at i x && bit_at i y
bit_and_lem = bitwise bit_and (λ p q. p && q) and_shr and_mod one_and

pub bit_or_lem : (x y i : ℕ) → bit_at i (bit_or x y) ≡ bit_at i x || bit_at i y
bit_or_lem = bitwise bit_or (λ p q. p || q) or_shr or_mod one_or

pub bit_xor_lem : (x y i : ℕ) → bit_at i (bit_xor x y) ≡ pick (bit_at i x) (not (bit_at i y)) (bit_at i y)
bit_xor_lem = bitwise bit_xor (λ p q. pick p (not q) q) xor_shr xor_mod one_xor

-- every bit below 32 is turned: what stands from bit i on is turned as a number of 32 - i bits ..
inverse_shift : (i j x : ℕ) → j + i ≡ 32 → x < 2 ^ 32 → inverse x / 2 ^ i ≡ (2 ^ j - 1) - x / 2 ^ i
inverse_shift i j x e h =
    let c = 2 ^ i in
    let a = x / c in
    let ones = rw e at (ones_split j i) in
    let top = shr_lt j i (subst (λ (k : ℕ). x < 2 ^ k) (sym e) h) in
    let rest = mod-lt x (pow_pos i) in
    let more : a ≤ 2 ^ j - 1 = omega arith in
    let f : inverse x ≡ ((2 ^ j - 1) - a) * c + ((c - 1) - x % c) =
    omega (arith, ones, split x i, mul-sub c (2 ^ j - 1) a, mul_comm c (2 ^ j - 1), mul_comm c a, mul_comm c ((2 ^ j - 1) - a), mul-le-mul_right c more) in
    ap (λ (n : ℕ). n / c) f ∙ digits_div ((2 ^ j - 1) - a) (omega arith)

-- .. and an odd number less its lowest digit turns that digit
turned : (n : ℕ) → n < 2 → eqb (1 - n) 1 ≡ not (eqb n 1)
turned = digit_ind (λ (n : ℕ). eqb (1 - n) 1 ≡ not (eqb n 1)) refl refl

pub bit_inverse : (x i : ℕ) → x < 2 ^ 32 → i < 32 → bit_at i (inverse x) ≡ not (bit_at i x)
bit_inverse x i hx hi =
    let j = 31 - i in
    let a = x / 2 ^ i in
    let e : suc j + i ≡ 32 = omega arith in
    let top = shr_lt (suc j) i (subst (λ (k : ℕ). x < 2 ^ k) (sym e) hx) in
    let p = pow_pos j in
    let f : ((2 ^ suc j - 1) - a) % 2 ≡ 1 - a % 2 = omega (arith, two-pow-succ j) in
    ap (λ (n : ℕ). eqb (n % 2) 1) (inverse_shift i (suc j) x e hx) ∙ ap (λ (n : ℕ). eqb n 1) f ∙ turned (a % 2) (mod-lt a (zero-lt-suc 1))
