-- The laws, row by row.
use mathlib.Core.Path.{◌≡◌, refl, sym, ◌∙◌, ap, subst}
use mathlib.Core.Bool.{Bool, not, ◌&&◌, ◌||◌}
use Prim.Native.Nat.{ℕ, ◌+◌, ◌*◌, ◌/◌, ◌%◌, ◌^◌, ◌≤◌, ◌<◌}
use native.Mathlib.Nat.{le_refl, le_of_lt, mod-eq_of_lt, div-add-mod'}
use native.Mathlib.Omega.{arith}
use borrow.Author.Tests.{ne_eqb}
use lib.Arith.{digits_div, digits_mod}
use lib.Dec.{T, ltb, ltb→lt, nltb→le, lit≤}
use lib.IntN.{pos, neg_ℤ, ◌+ℤ◌, ◌-ℤ◌, ◌*ℤ◌}
use lib.Pow.{pow_pos}
use lib.Signed.{◌≤ℤ◌, lt_z_no, ≤ℤ_refl}
use Rattle.word.specs.Widen.{widen}
use Rattle.meanings.specs.Arith.{below, shifted}
use Rattle.meanings.specs.Integer.{signed, bit_at}
use Rattle.meanings.specs.Value.{value, carry, address, loaded, stored}
use Rattle.meanings.specs.Laws.{Laws}
use Rattle.meanings.proofs.Signed.{word_signed, widen_signed, halves, order, quotient, widened}
use Rattle.meanings.proofs.Modulo.{residue, residue_word, sums, opposites, multiples, modulo, floor}
use Rattle.meanings.proofs.Bits.{bit_and_lem, bit_or_lem, bit_xor_lem, bit_inverse}
use Rattle.meanings.proofs.Order.{tells_eq, tells_ne, tells_lt, tells_le, tells_ltu, tells_leu, le_of_lt_z, first_if, second_if}
use Rattle.meanings.proofs.Bounds.{value_below, loaded_below}

-- a word is what its integer leaves
itself : (x : ℕ) → x < 2 ^ 32 → residue (signed 32 x) ≡ x
itself x h =
    let (e, r) = word_signed x h in
    residue_word (signed 32 x) r ∙ e

-- shifted left by k, plus s2
shifted_sum : (x y n : ℕ) → x < 2 ^ 32 → y < 2 ^ 32 → residue (signed 32 x *ℤ pos n +ℤ signed 32 y) ≡ (x * n + y) % 2 ^ 32
shifted_sum x y n hx hy =
    sums (signed 32 x *ℤ pos n) (signed 32 y) (multiples (signed 32 x) n (itself x hx)) (itself y hy) ∙ omega arith

module _ (x y : ℕ) (hx : x < 2 ^ 32) (hy : y < 2 ^ 32) where
  -- what the signed test decides
  below_le : T (below x y) → signed 32 x ≤ℤ signed 32 y
  below_le t = le_of_lt_z (signed 32 x) (signed 32 y) (subst T (order x y hx hy) t)

  above_le : T (not (below x y)) → signed 32 y ≤ℤ signed 32 x
  above_le t = lt_z_no (subst (λ (b : Bool). T (not b)) (order x y hx hy) t)

-- the offset's word is what its integer leaves
offset : (field : ℕ) → field < 2 ^ 12 → residue (signed 12 field) ≡ widen 12 field
offset field h =
    let (e, r) = widen_signed 12 field (lit≤ tt) (lit≤ tt) (mod-eq_of_lt h) in
    residue_word (signed 12 field) (omega arith) ∙ sym e

-- the same law of two rows
both : {A : Type 0} → A → A × A
both a = (a, a)

pub laws : Laws value carry address loaded stored
unfolding value carry address loaded stored
laws = record {
  word = λ opcode x y b hx hy. value_below opcode x y b hx hy;
  add = λ x y b hx hy. modulo (signed 32 x +ℤ signed 32 y) (sums (signed 32 x) (signed 32 y) (itself x hx) (itself y hy));
  sub = λ x y b hx hy.
      modulo (signed 32 y -ℤ signed 32 x)
      (sums (signed 32 y) (neg_ℤ (signed 32 x)) (itself y hy) (opposites (signed 32 x) (itself x hx)) ∙ omega arith);
  and = λ x y b hx hy i h. bit_and_lem x y i;
  andc = λ x y b hx hy i h. bit_and_lem _ y i ∙ ap (λ (p : Bool). p && bit_at i y) (bit_inverse x i hx h);
  or = λ x y b hx hy i h. bit_or_lem x y i;
  orc = λ x y b hx hy i h. bit_or_lem _ y i ∙ ap (λ (p : Bool). p || bit_at i y) (bit_inverse x i hx h);
  xor = λ x y b hx hy i h. bit_xor_lem x y i;
  shl = λ x above k b hx hk.
      modulo (signed 32 x *ℤ pos (2 ^ k)) (multiples (signed 32 x) (2 ^ k) (itself x hx) ∙ ap (λ (n : ℕ). x * 2 ^ n % 2 ^ 32) (sym (digits_mod above hk)));
  shr = λ x above k b hx hk. floor (2 ^ k) (pow_pos k) (signed 32 x) (ap (λ (n : ℕ). signed 32 (shifted x n)) (digits_mod above hk) ∙ quotient x k hx);
  shru = λ x above k b hx hk. floor (2 ^ k) (pow_pos k) (pos x) (ap (λ (n : ℕ). pos (x / 2 ^ n)) (digits_mod above hk));
  sh1add = λ x y b hx hy. modulo (signed 32 x *ℤ pos 2 +ℤ signed 32 y) (shifted_sum x y 2 hx hy);
  sh2add = λ x y b hx hy. modulo (signed 32 x *ℤ pos 4 +ℤ signed 32 y) (shifted_sum x y 4 hx hy);
  sh3add = λ x y b hx hy. modulo (signed 32 x *ℤ pos 8 +ℤ signed 32 y) (shifted_sum x y 8 hx hy);
  sh4add = λ x y b hx hy. modulo (signed 32 x *ℤ pos 16 +ℤ signed 32 y) (shifted_sum x y 16 hx hy);
  max = λ x y b hx hy.
      second_if (λ (s v : ℕ). signed 32 s ≤ℤ signed 32 v) (λ n. ≤ℤ_refl (signed 32 n)) (below x y) x y (below_le x y hx hy) (above_le x y hx hy);
  maxu = λ x y b hx hy. second_if (λ (s v : ℕ). s ≤ v) le_refl (ltb x y) x y (λ t. le_of_lt (ltb→lt x y t)) (nltb→le x y);
  min = λ x y b hx hy.
      first_if (λ (s v : ℕ). signed 32 v ≤ℤ signed 32 s) (λ n. ≤ℤ_refl (signed 32 n)) (below x y) x y (below_le x y hx hy) (above_le x y hx hy);
  minu = λ x y b hx hy. first_if (λ (s v : ℕ). v ≤ s) le_refl (ltb x y) x y (λ t. le_of_lt (ltb→lt x y t)) (nltb→le x y);
  sxtb = λ above low y b h. widened 8 _ (lit≤ tt) (lit≤ tt) (digits_mod above h);
  sxth = λ above low y b h. widened 16 _ (lit≤ tt) (lit≤ tt) (digits_mod above h);
  zxtb = λ above low y b h. digits_mod above h;
  zxth = λ above low y b h. digits_mod above h;
  addcg = λ x y b. div-add-mod' (x + y + b) (2 ^ 32);
  mpyll = λ h l h' l' b hh hl hh' hl'. halves _ _ (digits_mod h hl) (digits_mod h' hl');
  mpyllu = λ h l h' l' b hh hl hh' hl'. λ i. digits_mod h hl i * digits_mod h' hl' i;
  mpylh = λ h l h' l' b hh hl hh' hl'. halves _ _ (digits_mod h hl) (ap (λ (n : ℕ). n % 2 ^ 16) (digits_div h' hl') ∙ mod-eq_of_lt hh');
  mpylhu = λ h l h' l' b hh hl hh' hl'. λ i. digits_mod h hl i * digits_div h' hl' i;
  mpyhh = λ h l h' l' b hh hl hh' hl'.
      halves _ _ (ap (λ (n : ℕ). n % 2 ^ 16) (digits_div h hl) ∙ mod-eq_of_lt hh) (ap (λ (n : ℕ). n % 2 ^ 16) (digits_div h' hl') ∙ mod-eq_of_lt hh');
  mpyhhu = λ h l h' l' b hh hl hh' hl'. λ i. digits_div h hl i * digits_div h' hl' i;
  cmpeq = both (λ x y b hx hy. tells_eq x y);
  cmpne = both (λ x y b hx hy. tells_ne x y);
  cmplt = both (λ x y b hx hy. tells_lt (signed 32 x) (signed 32 y) (order x y hx hy));
  cmple = both (λ x y b hx hy. tells_le (signed 32 x) (signed 32 y) (order y x hy hx));
  cmpgt = both (λ x y b hx hy. tells_lt (signed 32 y) (signed 32 x) (order y x hy hx));
  cmpge = both (λ x y b hx hy. tells_le (signed 32 y) (signed 32 x) (order x y hx hy));
  cmpltu = both (λ x y b hx hy. tells_ltu x y);
  cmpleu = both (λ x y b hx hy. tells_leu x y);
  cmpgtu = both (λ x y b hx hy. tells_ltu y x);
  cmpgeu = both (λ x y b hx hy. tells_leu y x);
  slct = λ x y b. (refl, λ h. rw (ne_eqb b 1 h));
  slctf = λ x y b. (refl, λ h. rw (ne_eqb b 1 h));
  loads = loaded_below;
  ldw = λ v. refl;
  ldh = λ v h. widened 16 v (lit≤ tt) (lit≤ tt) (mod-eq_of_lt h);
  ldhu = λ v h. mod-eq_of_lt h;
  ldb = λ v h. widened 8 v (lit≤ tt) (lit≤ tt) (mod-eq_of_lt h);
  ldbu = λ v h. mod-eq_of_lt h;
  stw = λ x. refl;
  sth = λ above low h. digits_mod above h;
  stb = λ above low h. digits_mod above h;
  widened = λ k field some most h. widened k field some most (mod-eq_of_lt h);
  addresses = λ x field h. modulo (pos x +ℤ signed 12 field) (sums (pos x) (signed 12 field) refl (offset field h) ∙ omega arith);
}
