-- Every integer divided by m, and the words that sums and products leave modulo 2^32.
use mathlib.Core.Path.{◌≡◌, refl, sym, ◌∙◌, ap, subst}
use mathlib.Core.Logic.{⊎_elim}
use Prim.Native.Nat.{ℕ, zero, suc, ◌+◌, ◌-◌, ◌*◌, ◌/◌, ◌%◌, ◌^◌, ◌<◌}
use native.Mathlib.Nat.{mod-lt, div-add-mod', suc-mul, add-mul, mul_right_comm}
use native.Mathlib.Omega.{arith}
use borrow.Author.Tests.{lt-ltb, le-ltb}
use lib.IntN.{ℤ, pos, negsuc, neg_ℤ, ◌+ℤ◌, ◌*ℤ◌}
use lib.Pow.{pow_pos}
use lib.Signed.{mag, shr_z}
use Rattle.meanings.specs.Integer.{Divided, Modulo, Floor}
use Rattle.meanings.proofs.Signed.{lt_or_ge, word}

-- what is left of z
abbrev pub rest : ℕ → ℤ → ℕ
rest m (pos n) = n % m
rest m (negsuc n) = (m - 1) - n % m

divided : (m : ℕ) → 0 < m → (z : ℤ) → Divided z m (shr_z z m) (rest m z)
divided m p (pos n) = record { sum = ap pos (sym (div-add-mod' n m)); less = mod-lt n p }
divided m p (negsuc n) =
    let q = n / m in
    let r = (m - 1) - n % m in
    let t = q * m + (m - 1) in
    let low = mod-lt n p in
    let whole = div-add-mod' n m in
    let e : suc q * m ≡ suc t = omega (arith, suc-mul q m) in
    let f : suc t - suc r ≡ n = omega arith in
    record { sum = rw (e, lt-ltb r (suc t) (omega arith), f); less = omega arith }

pub floor : (m : ℕ) → 0 < m → (z : ℤ) {q : ℤ} → q ≡ shr_z z m → Floor m z q
floor m p z e = record { remainder = rest m z; divided = rw e (divided m p z) }

abbrev pub residue : ℤ → ℕ
residue z = rest (2 ^ 32) z

pub modulo : (z : ℤ) {v : ℕ} → residue z ≡ v → Modulo (2 ^ 32) z v
modulo z e = record { quotient = shr_z z (2 ^ 32); divided = subst (Divided z (2 ^ 32) (shr_z z (2 ^ 32))) e (divided (2 ^ 32) (pow_pos 32) z) }

-- a sum, an opposite and a multiple go by the words
difference : (a b : ℕ) → residue (pos a +ℤ negsuc b) ≡ (a % 2 ^ 32 + residue (negsuc b)) % 2 ^ 32
difference a b =
    ⊎_elim
    (λ s. rw (lt-ltb a (suc b) s) (omega arith))
    (λ s. rw (le-ltb a (suc b) s) (omega arith))
    (lt_or_ge a (suc b))

residue_sum : (a b : ℤ) → residue (a +ℤ b) ≡ (residue a + residue b) % 2 ^ 32
residue_sum (pos a) (pos b) = omega arith
residue_sum (pos a) (negsuc b) = difference a b
residue_sum (negsuc a) (pos b) = omega (arith, difference b a)
residue_sum (negsuc a) (negsuc b) = omega arith

residue_opposite : (a : ℤ) → residue (neg_ℤ a) ≡ (2 ^ 32 - residue a) % 2 ^ 32
residue_opposite (pos zero) = refl
residue_opposite (pos (suc n)) = omega arith
residue_opposite (negsuc n) = omega arith

-- a number of times 2^32, times n, is some number of times 2^32
times : (q r n : ℕ) → (q * 2 ^ 32 + r) * n ≡ q * n * 2 ^ 32 + r * n
times q r n = add-mul (q * 2 ^ 32) r n ∙ ap (λ (k : ℕ). k + r * n) (mul_right_comm q (2 ^ 32) n)

residue_multiple : (a : ℤ) (n : ℕ) → residue (a *ℤ pos n) ≡ residue a * n % 2 ^ 32
residue_multiple (pos a) n =
    let e : (a / 2 ^ 32 * 2 ^ 32 + a % 2 ^ 32) * n ≡ a * n = ap (λ (k : ℕ). k * n) (div-add-mod' a (2 ^ 32)) in
    omega (arith, times (a / 2 ^ 32) (a % 2 ^ 32) n)
residue_multiple (negsuc a) n =
    let r = (2 ^ 32 - 1) - a % 2 ^ 32 in
    let f : suc (a / 2 ^ 32) * 2 ^ 32 + 0 ≡ r + suc a = omega arith in
    let e : (suc (a / 2 ^ 32) * 2 ^ 32 + 0) * n ≡ (r + suc a) * n = ap (λ (k : ℕ). k * n) f in
    residue_opposite (pos (suc a * n)) ∙ omega (arith, times (suc (a / 2 ^ 32)) 0 n, add-mul r (suc a) n)

pub sums : (a b : ℤ) {x y : ℕ} → residue a ≡ x → residue b ≡ y → residue (a +ℤ b) ≡ (x + y) % 2 ^ 32
sums a b ex ey = residue_sum a b ∙ λ i. (ex i + ey i) % 2 ^ 32

pub opposites : (a : ℤ) {x : ℕ} → residue a ≡ x → residue (neg_ℤ a) ≡ (2 ^ 32 - x) % 2 ^ 32
opposites a e = residue_opposite a ∙ ap (λ (n : ℕ). (2 ^ 32 - n) % 2 ^ 32) e

pub multiples : (a : ℤ) (n : ℕ) {x : ℕ} → residue a ≡ x → residue (a *ℤ pos n) ≡ x * n % 2 ^ 32
multiples a n e = residue_multiple a n ∙ ap (λ (k : ℕ). k * n % 2 ^ 32) e

-- an integer of 32 bits leaves the word that stands for it
pub residue_word : (z : ℤ) → mag z < 2 ^ 31 → residue z ≡ word z
residue_word (pos n) h = omega arith
residue_word (negsuc n) h = omega arith
