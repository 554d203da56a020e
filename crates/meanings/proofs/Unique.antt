-- What each notion of the laws says holds of one number only.
use mathlib.Core.Path.{◌≡◌, refl, sym, ◌∙◌, ap, ap₂, subst}
use mathlib.Core.Logic.{◌⊎◌, inl, inr}
use mathlib.Core.Bool.{Bool}
use Prim.Native.Nat.{ℕ, zero, suc, ◌+◌, ◌-◌, ◌*◌, ◌/◌, ◌%◌, ◌^◌, ◌<◌, suc-le-suc}
use native.Mathlib.Nat.{le_antisymm, two-pow-succ, mod-lt, div-add-mod', suc-mul, div-one, zero-lt-suc}
use native.Mathlib.Numerals.{one-add}
use native.Mathlib.Omega.{arith}
use borrow.Author.Tests.{lt-ltb}
use lib.Arith.{digits_div, digits_mod, lt-one}
use lib.Dec.{eqb, leb→le}
use lib.IntN.{ℤ, pos, negsuc, ◌+ℤ◌, ◌*ℤ◌}
use lib.Pow.{shr-shr}
use lib.Signed.{◌≤ℤ◌, shr_z}
use Rattle.word.specs.Choice.{bit}
use Rattle.meanings.specs.Integer.{signed, Modulo, Floor, bit_at, Tells}
use Rattle.meanings.proofs.Signed.{word, word_signed}
use Rattle.meanings.proofs.Modulo.{rest}
use Rattle.meanings.proofs.Bits.{digit}

-- quotient and remainder of an integer that was put together from them
back : (m : ℕ) (q : ℤ) (r : ℕ) → r < m → (rest m (q *ℤ pos m +ℤ pos r) ≡ r) × (shr_z (q *ℤ pos m +ℤ pos r) m ≡ q)
back m (pos a) r h = (digits_mod a h, ap pos (digits_div a h))
back m (negsuc a) r h =
    let t = a * m + (m - 1) in
    let s = (m - 1) - r in
    let small : s < m = omega arith in
    let e : suc a * m ≡ suc t = omega (arith, suc-mul a m) in
    let f : suc t - suc r ≡ a * m + s = omega arith in
    let g : (m - 1) - s ≡ r = omega arith in
    rw (e, lt-ltb r (suc t) (omega arith), f, digits_mod a small, digits_div a small) (g, refl)

pub one_modulo : {m : ℕ} {z : ℤ} {v w : ℕ} → Modulo m z v → Modulo m z w → v ≡ w
one_modulo {m} {z} {v} {w} a b =
    sym (back m a.quotient v a.divided.less).0
    ∙ ap (rest m) (sym a.divided.sum ∙ b.divided.sum)
    ∙ (back m b.quotient w b.divided.less).0

pub one_floor : {m : ℕ} {z p q : ℤ} → Floor m z p → Floor m z q → p ≡ q
one_floor {m} {z} {p} {q} a b =
    sym (back m p a.remainder a.divided.less).1
    ∙ ap (λ (n : ℤ). shr_z n m) (sym a.divided.sum ∙ b.divided.sum)
    ∙ (back m q b.remainder b.divided.less).1

pub one_word : {v w : ℕ} → v < 2 ^ 32 → w < 2 ^ 32 → signed 32 v ≡ signed 32 w → v ≡ w
one_word {v} {w} hv hw e = sym (word_signed v hv).0 ∙ ap word e ∙ (word_signed w hw).0

abbrev odd : ℕ → Bool
odd n = eqb (n % 2) 1

half : (n i : ℕ) → n / 2 / 2 ^ i ≡ n / 2 ^ suc i
half n i = shr-shr n 1 i ∙ ap (λ (j : ℕ). n / 2 ^ j) (one-add i)

-- numbers of k bits
pub one_of_bits : (k : ℕ) {v w : ℕ} → v < 2 ^ k → w < 2 ^ k → ((i : ℕ) → i < k → bit_at i v ≡ bit_at i w) → v ≡ w
one_of_bits zero hv hw h = lt-one hv ∙ sym (lt-one hw)
one_of_bits (suc k) {v} {w} hv hw h =
    let halves : v / 2 ≡ w / 2 =
    one_of_bits k (omega (arith, two-pow-succ k)) (omega (arith, two-pow-succ k))
    (λ i l. ap odd (half v i) ∙ h (suc i) (suc-le-suc l) ∙ sym (ap odd (half w i))) in
    let same : odd v ≡ odd w = ap odd (sym (div-one v)) ∙ h 0 (zero-lt-suc k) ∙ ap odd (div-one w) in
    let lowest : v % 2 ≡ w % 2 = digit (v % 2) (mod-lt v (zero-lt-suc 1)) ∙ ap bit same ∙ sym (digit (w % 2) (mod-lt w (zero-lt-suc 1))) in
    sym (div-add-mod' v 2) ∙ ap₂ (λ (m n : ℕ). m * 2 + n) halves lowest ∙ div-add-mod' w 2

pub one_answer : {P : Type 0} {v w : ℕ} → Tells P v → Tells P w → v ≡ w
one_answer (inl a) (inl b) = a.0 ∙ sym b.0
one_answer (inl a) (inr b) = absurd (b.1 a.1)
one_answer (inr a) (inl b) = absurd (a.1 b.1)
one_answer (inr a) (inr b) = a.0 ∙ sym b.0

antisymmetric : (a b : ℤ) → a ≤ℤ b → b ≤ℤ a → a ≡ b
antisymmetric (pos a) (pos b) h k = ap pos (le_antisymm (leb→le a b h.le) (leb→le b a k.le))
antisymmetric (pos a) (negsuc b) h k = absurd h.le
antisymmetric (negsuc a) (pos b) h k = absurd k.le
antisymmetric (negsuc a) (negsuc b) h k = ap negsuc (le_antisymm (leb→le a b k.le) (leb→le b a h.le))

pub one_signed : {x y : ℕ} → x < 2 ^ 32 → y < 2 ^ 32 → signed 32 x ≤ℤ signed 32 y → signed 32 y ≤ℤ signed 32 x → x ≡ y
one_signed {x} {y} hx hy h k = one_word hx hy (antisymmetric (signed 32 x) (signed 32 y) h k)

-- of two numbers the one that both stand to
pub one_of_two : (order : ℕ → ℕ → Type 0) {x y v w : ℕ} → (order x y → order y x → x ≡ y)
    → ((v ≡ x) ⊎ (v ≡ y)) × order x v × order y v → ((w ≡ x) ⊎ (w ≡ y)) × order x w × order y w → v ≡ w
one_of_two order anti (inl a, p, q) (inl b, r, s) = a ∙ sym b
one_of_two order anti (inr a, p, q) (inr b, r, s) = a ∙ sym b
one_of_two order {x} {y} anti (inl a, p, q) (inr b, r, s) = a ∙ anti (subst (order x) b r) (subst (order y) a q) ∙ sym b
one_of_two order {x} {y} anti (inr a, p, q) (inl b, r, s) = a ∙ sym (anti (subst (order x) a p) (subst (order y) b s)) ∙ sym b
