-- One law for every width: the product of two numbers of k bits has at most k + k.
use mathlib.Core.Path.{subst⁻¹}
use Prim.Native.Nat.{ℕ, ◌+◌, ◌*◌, ◌^◌, ◌<◌}
use native.Mathlib.Nat.{le_of_lt, lt_of_le_of_lt, mul-le-mul_left, mul-lt-mul_of_pos_right}
use lib.Pow.{pow_pos, pow-add}

pub product_below : (k : ℕ) {x y : ℕ} → x < 2 ^ k → y < 2 ^ k → x * y < 2 ^ (k + k)
product_below k {x} {y} hx hy =
    subst⁻¹ (λ (n : ℕ). x * y < n) (pow-add 2 k k)
    (lt_of_le_of_lt (mul-le-mul_left x (le_of_lt hy)) (mul-lt-mul_of_pos_right hx (pow_pos k)))
