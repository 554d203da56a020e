-- Words and the integers that they stand for. A word stands for one integer, so each law goes by the integer's sign.
use mathlib.Core.Path.{◌≡◌, refl, sym, ◌∙◌, ap}
use mathlib.Core.Logic.{◌⊎◌, inl, inr, ⊎_elim}
use mathlib.Core.Bool.{Bool, true, false}
use Prim.Native.Nat.{ℕ, zero, suc, ◌+◌, ◌-◌, ◌*◌, ◌%◌, ◌^◌, ◌≤◌, ◌<◌}
use native.Mathlib.Nat.{le_of_lt, lt_of_lt_of_le, lt_of_le_of_lt, mod-lt, mul-add, mul-le-mul, sub-add_cancel, two-pow-succ}
use native.Mathlib.Omega.{arith}
use borrow.Author.Tests.{lt-ltb, le-ltb, ltb-true, ltb-false}
use lib.Dec.{ltb, lit≤}
use lib.IntN.{ℤ, pos, negsuc, neg_ℤ, ◌*ℤ◌}
use lib.Pow.{pow_pos, pow_mono}
use lib.Signed.{mag, lt_z, shr_z, mag_shr}
use Rattle.word.specs.Widen.{widen}
use Rattle.meanings.specs.Arith.{wrap, below, shifted}
use Rattle.meanings.specs.Integer.{signed}

pub lt_or_ge : (a b : ℕ) → (a < b) ⊎ (b ≤ a)
lt_or_ge a b = go (ltb a b) refl
  where
    go : (t : Bool) → ltb a b ≡ t → (a < b) ⊎ (b ≤ a)
    go true e = inl (ltb-true a b e)
    go false e = inr (ltb-false a b e)

-- two tests agree if their orders do
same_test : (a b c d : ℕ) → (a < b → c < d) → (b ≤ a → d ≤ c) → ltb a b ≡ ltb c d
same_test a b c d f g =
    ⊎_elim
    (λ h. lt-ltb a b h ∙ sym (lt-ltb c d (f h)))
    (λ h. le-ltb a b h ∙ sym (le-ltb c d (g h)))
    (lt_or_ge a b)

-- the word that stands for an integer ..
abbrev pub word : ℤ → ℕ
word (pos n) = n
word (negsuc n) = 2 ^ 32 - suc n

-- .. stands for no other ..
pub signed_is : (z : ℤ) {x : ℕ} → x ≡ word z → mag z < 2 ^ 31 → signed 32 x ≡ z
signed_is (pos n) e h = rw (e, lt-ltb n (2 ^ 31) h)
signed_is (negsuc n) e h =
    let back : 2 ^ 32 - suc (2 ^ 32 - suc n) ≡ n = omega arith in
    rw (e, le-ltb (2 ^ 32 - suc n) (2 ^ 31) (omega arith), back)

-- .. and each word for one
pub word_signed : (x : ℕ) → x < 2 ^ 32 → (word (signed 32 x) ≡ x) × (mag (signed 32 x) < 2 ^ 31)
word_signed x h =
    ⊎_elim
    (λ s. rw (lt-ltb x (2 ^ 31) s) (refl, s))
    (λ s. rw (le-ltb x (2 ^ 31) s) (omega arith))
    (lt_or_ge x (2 ^ 31))

-- the low k bits, widened, stand for what the k bits stand for; two says that 2^k is twice 2^(k-1)
pub widen_signed : (k x : ℕ) {l : ℕ} → 1 ≤ k → k ≤ 32 → x % 2 ^ k ≡ l → (widen k x ≡ word (signed k l)) × (mag (signed k l) < 2 ^ (k - 1))
widen_signed k x {l} some most e =
    let one : suc (k - 1) ≡ k = omega arith in
    let two = rw one at (two-pow-succ (k - 1)) in
    let wide = pow_mono most in
    let low = mod-lt x (pow_pos k) in
    ⊎_elim
    (λ s. rw (e, lt-ltb l (2 ^ (k - 1)) s) (refl, s))
    (λ s. rw (e, le-ltb l (2 ^ (k - 1)) s) (omega arith))
    (lt_or_ge l (2 ^ (k - 1)))

-- what Arith.antt does to words is what the integers' operations do: the order, by the numbers that `below` compares ..
abbrev biased : ℕ → ℕ
biased x = (x + 2 ^ 31) % 2 ^ 32

by_sign : (a b : ℤ) → mag a < 2 ^ 31 → mag b < 2 ^ 31 → below (word a) (word b) ≡ lt_z a b
by_sign (pos a) (pos b) ha hb = same_test (biased a) (biased b) a b (λ h. omega arith) (λ h. omega arith)
by_sign (pos a) (negsuc b) ha hb = le-ltb (biased a) (biased (2 ^ 32 - suc b)) (omega arith)
by_sign (negsuc a) (pos b) ha hb = lt-ltb (biased (2 ^ 32 - suc a)) (biased b) (omega arith)
by_sign (negsuc a) (negsuc b) ha hb =
    same_test (biased (2 ^ 32 - suc a)) (biased (2 ^ 32 - suc b)) b a (λ h. omega arith) (λ h. omega arith)

-- .. the shift ..
by_shift : (z : ℤ) (k : ℕ) → mag z < 2 ^ 31 → shifted (word z) k ≡ word (shr_z z (2 ^ k))
by_shift (pos n) k h = rw (lt-ltb n (2 ^ 31) h)
by_shift (negsuc n) k h =
    let back : (2 ^ 32 - 1) - (2 ^ 32 - suc n) ≡ n = omega arith in
    rw (le-ltb (2 ^ 32 - suc n) (2 ^ 31) (omega arith), back) (omega arith)

-- .. and the product. A negative factor is what a positive one lacks to 2^32
both : (a b : ℕ) → b ≤ 2 ^ 32 → a * (2 ^ 32 - b) + a * b ≡ a * 2 ^ 32
both a b h = sym (mul-add a (2 ^ 32 - b) b) ∙ ap (λ (n : ℕ). a * n) (sub-add_cancel h)

opposite : (n : ℕ) → n ≤ 2 ^ 31 → (wrap (2 ^ 32 - n) ≡ word (neg_ℤ (pos n))) × (mag (neg_ℤ (pos n)) < 2 ^ 31)
opposite zero h = omega arith
opposite (suc n) h = omega arith

product : (a b : ℤ) → mag a < 2 ^ 15 → mag b < 2 ^ 15 → (wrap (word a * word b) ≡ word (a *ℤ b)) × (mag (a *ℤ b) < 2 ^ 31)
product (pos a) (pos b) ha hb =
    let s = mul-le-mul (le_of_lt ha) (le_of_lt hb) in
    omega arith
product (pos a) (negsuc b) ha hb =
    let s = mul-le-mul (le_of_lt ha) hb in
    omega (arith, both a (suc b) (omega arith), opposite (a * suc b) (omega arith))
product (negsuc a) (pos b) ha hb =
    let s = mul-le-mul ha (le_of_lt hb) in
    omega (arith, both b (suc a) (omega arith), opposite (suc a * b) (omega arith))
product (negsuc a) (negsuc b) ha hb =
    let s = mul-le-mul ha hb in
    omega (arith, both (2 ^ 32 - suc a) (suc b) (omega arith), both (suc b) (suc a) (omega arith))

-- of halves, widened
pub halves : (x y : ℕ) {l m : ℕ} → x % 2 ^ 16 ≡ l → y % 2 ^ 16 ≡ m → signed 32 (wrap (widen 16 x * widen 16 y)) ≡ signed 16 l *ℤ signed 16 m
halves x y {l} {m} el em =
    let (ex, rx) = widen_signed 16 x (lit≤ tt) (lit≤ tt) el in
    let (ey, ry) = widen_signed 16 y (lit≤ tt) (lit≤ tt) em in
    let (e, r) = product (signed 16 l) (signed 16 m) rx ry in
    signed_is (signed 16 l *ℤ signed 16 m) (rw (← ex, ← ey) at e) r

-- so `below` is the order of the integers, and `shifted` their quotient, rounded down
pub order : (x y : ℕ) → x < 2 ^ 32 → y < 2 ^ 32 → below x y ≡ lt_z (signed 32 x) (signed 32 y)
order x y hx hy =
    let (ex, rx) = word_signed x hx in
    let (ey, ry) = word_signed y hy in
    rw (ex, ey) at (by_sign (signed 32 x) (signed 32 y) rx ry)

pub quotient : (x k : ℕ) → x < 2 ^ 32 → signed 32 (shifted x k) ≡ shr_z (signed 32 x) (2 ^ k)
quotient x k hx =
    let (e, r) = word_signed x hx in
    signed_is (shr_z (signed 32 x) (2 ^ k)) (rw e at (by_shift (signed 32 x) k r)) (lt_of_le_of_lt (mag_shr (signed 32 x) (2 ^ k)) r)

-- a field of k bits, widened, keeps its integer
pub widened : (k x : ℕ) {l : ℕ} → 1 ≤ k → k ≤ 32 → x % 2 ^ k ≡ l → signed 32 (widen k x) ≡ signed k l
widened k x {l} some most e =
    let (w, r) = widen_signed k x some most e in
    signed_is (signed k l) w (lt_of_lt_of_le r (pow_mono {j = 31} (omega arith)))
