-- Two tables that meet the laws agree, row by row.
use mathlib.Core.Path.{◌≡◌, sym, ◌∙◌, ap, subst, subst₂}
use mathlib.Core.Bool.{Bool}
use Prim.Native.Nat.{ℕ, zero, suc, ◌+◌, ◌-◌, ◌*◌, ◌/◌, ◌%◌, ◌^◌, ◌≤◌, ◌<◌}
use native.Mathlib.Nat.{le_antisymm, le_of_suc-le-suc, not-suc-le-zero, mod-lt, div-add-mod', zero-add, suc-add, add-suc}
use native.Mathlib.Decide.{ℕ_discrete}
use native.Mathlib.Omega.{arith}
use lib.IntN.{ℤ, pos, ◌*ℤ◌}
use lib.Pow.{pow_pos, shr_lt}
use lib.Signed.{◌≤ℤ◌, mag}
use Rattle.meanings.specs.Arith.{low, high}
use Rattle.meanings.specs.Integer.{signed, Modulo, Floor, bit_at}
use Rattle.meanings.specs.Value.{value, carry, address, loaded, stored}
use Rattle.meanings.specs.Laws.{Laws, Shift, Extension, Product}
use Rattle.meanings.specs.Settled.{Settled}
use Rattle.meanings.proofs.Rows.{laws}
use Rattle.meanings.proofs.Unique.{one_modulo, one_floor, one_word, one_of_bits, one_answer, one_signed, one_of_two}

-- a rule of the n numbers from i on
abbrev From : (ℕ → Type 0) → ℕ → ℕ → Type 0
From P i zero = Unit {0}
From P i (suc n) = P i × From P (suc i) n

-- one after the other
infixr 5 ◌▸◌
◌▸◌ : {A B : Type 0} → A → B → A × B
a ▸ b = (a, b)

from : (P : ℕ → Type 0) (i n : ℕ) → From P i n → (k : ℕ) → k < n → P (k + i)
from P i zero h k l = absurd (not-suc-le-zero l)
from P i (suc n) h zero l = rw zero-add h.0
from P i (suc n) h (suc k) l = rw (suc-add, ← add-suc k i) (from P (suc i) n h.1 k (le_of_suc-le-suc l))

abbrev Word : ℕ → Type 0
Word n = n < 2 ^ 32

-- a law that holds of one word only
abbrev OneWord : (ℕ → Type 0) → Type 0
OneWord law = (v w : ℕ) → Word v → Word w → law v → law w → v ≡ w

same : {n : ℕ} → OneWord (λ v. v ≡ n)
same v w hv hw p q = p ∙ sym q

same_signed : {z : ℤ} → OneWord (λ v. signed 32 v ≡ z)
same_signed v w hv hw p q = one_word hv hw (p ∙ sym q)

-- any table that meets the laws, beside the table
module _ (x y b : ℕ) (hx : x < 2 ^ 32) (hy : y < 2 ^ 32) where
  module _ {value' : ℕ → ℕ → ℕ → ℕ → ℕ} {carry' : ℕ → ℕ → ℕ → ℕ} {address' loaded' stored' : ℕ → ℕ → ℕ} (l : Laws value' carry' address' loaded' stored') where
    abbrev Same : ℕ → Type 0
    Same opcode = value' opcode x y b ≡ value opcode x y b

    bits : (opcode : ℕ) {f : ℕ → Bool} → ((i : ℕ) → i < 32 → bit_at i (value' opcode x y b) ≡ f i) → ((i : ℕ) → i < 32 → bit_at i (value opcode x y b) ≡ f i) → Same opcode
    bits opcode p q = one_of_bits 32 (l.word opcode x y b hx hy) (laws.word opcode x y b hx hy) (λ i h. p i h ∙ sym (q i h))

    -- a law that takes a word apart: the word is what its parts make
    module _ (opcode : ℕ) where
      shifts : (law : ℕ → ℕ → ℕ → Type 0) → OneWord (law x (y % 32))
          → Shift value' carry' address' loaded' stored' opcode law → Shift value carry address loaded stored opcode law → Same opcode
      shifts law one p q =
          let e = div-add-mod' y 32 in
          let h = subst Word (sym e) hy in
          let below = mod-lt y (pow_pos 5) in
          subst (λ (n : ℕ). value' opcode x n b ≡ value opcode x n b) e
          (one _ _ (l.word opcode x _ b hx h) (laws.word opcode x _ b hx h) (p x (y / 32) (y % 32) b hx below) (q x (y / 32) (y % 32) b hx below))

      extends : (k : ℕ) (law : ℕ → ℕ → Type 0) → OneWord (law (x % 2 ^ k))
          → Extension value' carry' address' loaded' stored' opcode k law → Extension value carry address loaded stored opcode k law → Same opcode
      extends k law one p q =
          let e = div-add-mod' x (2 ^ k) in
          let h = subst Word (sym e) hx in
          let below = mod-lt x (pow_pos k) in
          subst (λ (n : ℕ). value' opcode n y b ≡ value opcode n y b) e
          (one _ _ (l.word opcode _ y b h hy) (laws.word opcode _ y b h hy) (p (x / 2 ^ k) (x % 2 ^ k) y b below) (q (x / 2 ^ k) (x % 2 ^ k) y b below))

      multiplies : (law : ℕ → ℕ → ℕ → ℕ → ℕ → Type 0) → OneWord (law (high x) (low x) (high y) (low y))
          → Product value' carry' address' loaded' stored' opcode law → Product value carry address loaded stored opcode law → Same opcode
      multiplies law one p q =
          let ex = div-add-mod' x (2 ^ 16) in
          let ey = div-add-mod' y (2 ^ 16) in
          let gx = subst Word (sym ex) hx in
          let gy = subst Word (sym ey) hy in
          let lx = mod-lt x (pow_pos 16) in
          let ly = mod-lt y (pow_pos 16) in
          let tx = shr_lt 16 16 hx in
          let ty = shr_lt 16 16 hy in
          subst₂ (λ (m n : ℕ). value' opcode m n b ≡ value opcode m n b) ex ey
          (one _ _ (l.word opcode _ _ b gx gy) (laws.word opcode _ _ b gx gy)
          (p (high x) (low x) (high y) (low y) b tx lx ty ly)
          (q (high x) (low x) (high y) (low y) b tx lx ty ly))

    sum_and_carry : Same 23 × (carry' x y b ≡ carry x y b)
    sum_and_carry = omega (arith, l.addcg x y b, laws.addcg x y b, l.word 23 x y b hx hy, laws.word 23 x y b hx hy)

    by_branch : (opcode : ℕ) {u v : ℕ}
        → ((b : ℕ) → (value' opcode x y 1 ≡ u) × ((b ≡ 1 → ⊥) → value' opcode x y b ≡ v))
        → ((b : ℕ) → (value opcode x y 1 ≡ u) × ((b ≡ 1 → ⊥) → value opcode x y b ≡ v)) → Same opcode
    by_branch opcode p q = go (ℕ_discrete b 1)
      where
        go : Dec (b ≡ 1) → Same opcode
        go (yes e) = rw e ((p 1).0 ∙ sym (q 1).0)
        go (no n) = (p b).1 n ∙ sym ((q b).1 n)

    rows : From Same 1 51
    rows =
        one_modulo (l.add x y b hx hy) (laws.add x y b hx hy)
        ▸ one_modulo (l.sub x y b hx hy) (laws.sub x y b hx hy)
        ▸ bits 3 (l.and x y b hx hy) (laws.and x y b hx hy)
        ▸ bits 4 (l.andc x y b hx hy) (laws.andc x y b hx hy)
        ▸ bits 5 (l.or x y b hx hy) (laws.or x y b hx hy)
        ▸ bits 6 (l.orc x y b hx hy) (laws.orc x y b hx hy)
        ▸ bits 7 (l.xor x y b hx hy) (laws.xor x y b hx hy)
        ▸ shifts 8 (λ x k v. Modulo (2 ^ 32) (signed 32 x *ℤ pos (2 ^ k)) v) (λ v w hv hw p q. one_modulo p q) l.shl laws.shl
        ▸ shifts 9 (λ x k v. Floor (2 ^ k) (signed 32 x) (signed 32 v)) (λ v w hv hw p q. one_word hv hw (one_floor p q)) l.shr laws.shr
        ▸ shifts 10 (λ x k v. Floor (2 ^ k) (pos x) (pos v)) (λ v w hv hw p q. ap mag (one_floor p q)) l.shru laws.shru
        ▸ one_modulo (l.sh1add x y b hx hy) (laws.sh1add x y b hx hy)
        ▸ one_modulo (l.sh2add x y b hx hy) (laws.sh2add x y b hx hy)
        ▸ one_modulo (l.sh3add x y b hx hy) (laws.sh3add x y b hx hy)
        ▸ one_modulo (l.sh4add x y b hx hy) (laws.sh4add x y b hx hy)
        ▸ one_of_two (λ (s v : ℕ). signed 32 s ≤ℤ signed 32 v) (λ p q. one_signed hx hy p q) (l.max x y b hx hy) (laws.max x y b hx hy)
        ▸ one_of_two (λ (s v : ℕ). s ≤ v) le_antisymm (l.maxu x y b hx hy) (laws.maxu x y b hx hy)
        ▸ one_of_two (λ (s v : ℕ). signed 32 v ≤ℤ signed 32 s) (λ p q. one_signed hx hy q p) (l.min x y b hx hy) (laws.min x y b hx hy)
        ▸ one_of_two (λ (s v : ℕ). v ≤ s) (λ p q. le_antisymm q p) (l.minu x y b hx hy) (laws.minu x y b hx hy)
        ▸ extends 19 8 (λ low v. signed 32 v ≡ signed 8 low) same_signed l.sxtb laws.sxtb
        ▸ extends 20 16 (λ low v. signed 32 v ≡ signed 16 low) same_signed l.sxth laws.sxth
        ▸ extends 21 8 (λ low v. v ≡ low) same l.zxtb laws.zxtb
        ▸ extends 22 16 (λ low v. v ≡ low) same l.zxth laws.zxth
        ▸ sum_and_carry.0
        ▸ multiplies 24 (λ h l h' l' v. signed 32 v ≡ signed 16 l *ℤ signed 16 l') same_signed l.mpyll laws.mpyll
        ▸ multiplies 25 (λ h l h' l' v. v ≡ l * l') same l.mpyllu laws.mpyllu
        ▸ multiplies 26 (λ h l h' l' v. signed 32 v ≡ signed 16 l *ℤ signed 16 h') same_signed l.mpylh laws.mpylh
        ▸ multiplies 27 (λ h l h' l' v. v ≡ l * h') same l.mpylhu laws.mpylhu
        ▸ multiplies 28 (λ h l h' l' v. signed 32 v ≡ signed 16 h *ℤ signed 16 h') same_signed l.mpyhh laws.mpyhh
        ▸ multiplies 29 (λ h l h' l' v. v ≡ h * h') same l.mpyhhu laws.mpyhhu
        ▸ one_answer (l.cmpeq.0 x y b hx hy) (laws.cmpeq.0 x y b hx hy)
        ▸ one_answer (l.cmpne.0 x y b hx hy) (laws.cmpne.0 x y b hx hy)
        ▸ one_answer (l.cmplt.0 x y b hx hy) (laws.cmplt.0 x y b hx hy)
        ▸ one_answer (l.cmple.0 x y b hx hy) (laws.cmple.0 x y b hx hy)
        ▸ one_answer (l.cmpgt.0 x y b hx hy) (laws.cmpgt.0 x y b hx hy)
        ▸ one_answer (l.cmpge.0 x y b hx hy) (laws.cmpge.0 x y b hx hy)
        ▸ one_answer (l.cmpltu.0 x y b hx hy) (laws.cmpltu.0 x y b hx hy)
        ▸ one_answer (l.cmpleu.0 x y b hx hy) (laws.cmpleu.0 x y b hx hy)
        ▸ one_answer (l.cmpgtu.0 x y b hx hy) (laws.cmpgtu.0 x y b hx hy)
        ▸ one_answer (l.cmpgeu.0 x y b hx hy) (laws.cmpgeu.0 x y b hx hy)
        ▸ one_answer (l.cmpeq.1 x y b hx hy) (laws.cmpeq.1 x y b hx hy)
        ▸ one_answer (l.cmpne.1 x y b hx hy) (laws.cmpne.1 x y b hx hy)
        ▸ one_answer (l.cmplt.1 x y b hx hy) (laws.cmplt.1 x y b hx hy)
        ▸ one_answer (l.cmple.1 x y b hx hy) (laws.cmple.1 x y b hx hy)
        ▸ one_answer (l.cmpgt.1 x y b hx hy) (laws.cmpgt.1 x y b hx hy)
        ▸ one_answer (l.cmpge.1 x y b hx hy) (laws.cmpge.1 x y b hx hy)
        ▸ one_answer (l.cmpltu.1 x y b hx hy) (laws.cmpltu.1 x y b hx hy)
        ▸ one_answer (l.cmpleu.1 x y b hx hy) (laws.cmpleu.1 x y b hx hy)
        ▸ one_answer (l.cmpgtu.1 x y b hx hy) (laws.cmpgtu.1 x y b hx hy)
        ▸ one_answer (l.cmpgeu.1 x y b hx hy) (laws.cmpgeu.1 x y b hx hy)
        ▸ by_branch 50 (l.slct x y) (laws.slct x y)
        ▸ by_branch 51 (l.slctf x y) (laws.slctf x y)
        ▸ tt

-- the short stores, at the whole word
module _ (x : ℕ) {value : ℕ → ℕ → ℕ → ℕ → ℕ} {carry : ℕ → ℕ → ℕ → ℕ} {address loaded stored : ℕ → ℕ → ℕ} (l : Laws value carry address loaded stored) where
  half_at : stored 58 x ≡ x % 2 ^ 16
  half_at = subst (λ (n : ℕ). stored 58 n ≡ x % 2 ^ 16) (div-add-mod' x (2 ^ 16)) (l.sth (x / 2 ^ 16) (x % 2 ^ 16) (mod-lt x (pow_pos 16)))

  byte_at : stored 59 x ≡ x % 2 ^ 8
  byte_at = subst (λ (n : ℕ). stored 59 n ≡ x % 2 ^ 8) (div-add-mod' x (2 ^ 8)) (l.stb (x / 2 ^ 8) (x % 2 ^ 8) (mod-lt x (pow_pos 8)))

pub settled : Settled
settled value' carry' address' loaded' stored' l = record {
  on_value = λ opcode x y b some most hx hy.
      let e : opcode - 1 + 1 ≡ opcode = omega arith in
      subst (Same x y b hx hy l) e (from (Same x y b hx hy l) 1 51 (rows x y b hx hy l) (opcode - 1) (omega arith));
  on_carry = λ x y b hx hy. (sum_and_carry x y b hx hy l).1;
  on_address = λ x field h. one_modulo (l.addresses x field h) (laws.addresses x field h);
  on_word = λ n. l.ldw n ∙ sym (laws.ldw n);
  on_half = λ n h.
      (one_word (l.loads 53 n (omega arith)) (laws.loads 53 n (omega arith)) (l.ldh n h ∙ sym (laws.ldh n h)), l.ldhu n h ∙ sym (laws.ldhu n h));
  on_byte = λ n h.
      (one_word (l.loads 55 n (omega arith)) (laws.loads 55 n (omega arith)) (l.ldb n h ∙ sym (laws.ldb n h)), l.ldbu n h ∙ sym (laws.ldbu n h));
  on_store = λ x. (l.stw x ∙ sym (laws.stw x), half_at x l ∙ sym (half_at x laws), byte_at x l ∙ sym (byte_at x laws));
}
