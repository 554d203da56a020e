-- A shift and a mask take bits hi..lo out of a word; a field's bound.
use mathlib.Core.Path.{◌≡◌, sym, ◌∙◌, ap}
use Prim.Native.Nat.{ℕ, suc, ◌+◌, ◌-◌, ◌/◌, ◌^◌, ◌≤◌, ◌<◌}
use native.Mathlib.Nat.{mod-lt}
use native.Mathlib.Omega.{arith}
use lib.Bits.{bit_and, and_mask}
use lib.Pow.{pow_pos, ones_split, ones_lt, high}
use Rattle.isa.specs.Syllable.{bits}

-- the mask: the ones of 32 bits, shifted until as many are left as the field has
mask : (j k : ℕ) → j + k ≡ 32 → (2 ^ 32 - 1) / 2 ^ k ≡ 2 ^ j - 1
mask j k e =
    ap (λ (n : ℕ). (2 ^ n - 1) / 2 ^ k) (sym e) ∙ ap (λ (n : ℕ). n / 2 ^ k) (ones_split j k) ∙ high (2 ^ j - 1) k (ones_lt k)

pub field : (s hi lo : ℕ) → lo ≤ hi → hi ≤ 31 → bit_and (s / 2 ^ lo) ((2 ^ 32 - 1) / 2 ^ (31 - (hi - lo))) ≡ bits hi lo s
field s hi lo h k = rw (mask (suc hi - lo) (31 - (hi - lo)) (omega arith)) (and_mask (s / 2 ^ lo) (suc hi - lo))

-- a field of n bits
pub field_below : (s hi lo n : ℕ) → suc hi - lo ≡ n → bits hi lo s < 2 ^ n
field_below s hi lo n e = rw e (mod-lt (s / 2 ^ lo) (pow_pos n))
