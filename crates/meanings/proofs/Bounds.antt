-- The bounds of the values: words for words, 0 or 1 for a branch register.
use mathlib.Core.Path.{◌≡◌, ◌∙◌, ap, subst}
use mathlib.Core.Bool.{Bool}
use mathlib.Core.List.{List, [], ◌∷◌}
use Prim.Native.Nat.{ℕ, zero, suc, ◌+◌, ◌-◌, ◌/◌, ◌%◌, ◌^◌, ◌≤◌, ◌<◌, zero-le}
use native.Mathlib.Nat.{lt_of_lt_of_le, lt_of_le_of_lt, mod-lt, div-le_self}
use native.Mathlib.Omega.{arith}
use lib.Bits.{and_lt, or_lt, xor_lt}
use lib.Dec.{lit<, lit≤}
use lib.ListN.{get_or, drop}
use lib.Pow.{pow_pos, pow_mono, shr_lt, ones_sub-lt}
use lib.Seq.{get_or-take, get_or-drop}
use Rattle.word.specs.Choice.{bit}
use Rattle.word.proofs.Choice.{pick_below, bit_le}
use Rattle.word.proofs.Widen.{widen_word}
use Rattle.meanings.specs.Arith.{high}
use Rattle.meanings.specs.Value.{comparisons, values, row, value, carry, address, loaded, stored}
use Rattle.meanings.proofs.Product.{product_below}

-- a rule that every number of a list keeps
data Every (P : ℕ → Type 0) : List ℕ → Type 0 where
  none : Every P []
  one : {x : ℕ} {l : List ℕ} → P x → Every P l → Every P (x ∷ l)

-- .. is kept by whatever is looked up in it
found : {P : ℕ → Type 0} {l : List ℕ} → P 0 → Every P l → (k : ℕ) → P (get_or l k 0)
found z none k = z
found z (one p e) zero = p
found z (one p e) (suc k) = found z e k

-- the bounds of the parts that the values are made of
mod_below : (k j : ℕ) → k ≤ j → (x : ℕ) → x % 2 ^ k < 2 ^ j
mod_below k j h x = lt_of_lt_of_le (mod-lt x (pow_pos k)) (pow_mono h)

div_below : (x m : ℕ) {n : ℕ} → x < n → x / m < n
div_below x m h = lt_of_le_of_lt (div-le_self x m) h

high_below : (x : ℕ) → x < 2 ^ 32 → high x < 2 ^ 16
high_below x h = shr_lt 16 16 h

bit_below : (t : Bool) → bit t < 2 ^ 32
bit_below t = lt_of_le_of_lt (bit_le t) (lit< tt)

-- every value is a word: row by row, by the bounds above. The table is 52 rows deep
words : (x y b : ℕ) → x < 2 ^ 32 → y < 2 ^ 32 → Every (λ (n : ℕ). n < 2 ^ 32) (values x y b)
words x y b hx hy =
    search (
      none,
      one,
      pow_pos 32,
      mod_below 8 32 (lit≤ tt),
      mod_below 16 16 (lit≤ tt),
      mod_below 16 32 (lit≤ tt),
      mod_below 32 32 (lit≤ tt),
      div_below,
      high_below,
      pick_below,
      widen_word 8 (lit≤ tt),
      widen_word 16 (lit≤ tt),
      bit_below,
      ones_sub-lt 32,
      and_lt 32,
      or_lt 32,
      xor_lt 32,
      product_below 16,
    )
    depth 60 fits 5000

-- every comparison is a bit
bits : (x y : ℕ) → Every (λ (n : ℕ). n ≤ 1) (comparisons x y)
bits x y = search (none, one, bit_le) depth 12

pub value_below : (opcode x y b : ℕ) → x < 2 ^ 32 → y < 2 ^ 32 → value opcode x y b < 2 ^ 32
unfolding value
value_below opcode x y b hx hy = found (pow_pos 32) (words x y b hx hy) opcode

-- the ten rows from 40 are the comparisons
pub value_bit : (opcode x y b : ℕ) → 40 ≤ opcode → opcode ≤ 49 → value opcode x y b ≤ 1
unfolding value
value_bit opcode x y b from to =
    let i = opcode - 40 in
    let e : 40 + i ≡ opcode = omega arith in
    subst (λ (n : ℕ). n ≤ 1)
    (get_or-take 10 (drop 40 (values x y b)) i 0 (omega arith) ∙ get_or-drop 40 (values x y b) i 0 ∙ ap (λ (k : ℕ). row k x y b) e)
    (found zero-le (bits x y) i)

pub carry_bit : (x y b : ℕ) → x < 2 ^ 32 → y < 2 ^ 32 → b ≤ 1 → carry x y b ≤ 1
unfolding carry
carry_bit x y b hx hy hb = omega arith

pub address_below : (base offset : ℕ) → address base offset < 2 ^ 32
unfolding address
address_below base offset = mod_below 32 32 (lit≤ tt) (base + offset)

pub loaded_below : (opcode v : ℕ) → v < 2 ^ 32 → loaded opcode v < 2 ^ 32
unfolding loaded
loaded_below opcode v h = search (pick_below, mod_below 8 32 (lit≤ tt), mod_below 16 32 (lit≤ tt), widen_word 8 (lit≤ tt), widen_word 16 (lit≤ tt))

pub stored_below : (opcode v : ℕ) → v < 2 ^ 32 → stored opcode v < 2 ^ 32
unfolding stored
stored_below opcode v h = search (pick_below, mod_below 8 32 (lit≤ tt), mod_below 16 32 (lit≤ tt))
