-- What is widened is a word.
use Prim.Native.Nat.{ℕ, ◌-◌, ◌%◌, ◌^◌, ◌≤◌, ◌<◌}
use native.Mathlib.Nat.{mod-lt}
use native.Mathlib.Omega.{arith}
use lib.Dec.{ltb}
use lib.Pow.{pow_pos, pow_mono}
use Rattle.word.specs.Widen.{widen}
use Rattle.word.proofs.Choice.{pick_below}

pub widen_word : (k : ℕ) → k ≤ 32 → (x : ℕ) → widen k x < 2 ^ 32
widen_word k h x =
    let low = mod-lt x (pow_pos k) in
    let wide = pow_mono h in
    pick_below (ltb (x % 2 ^ k) (2 ^ (k - 1))) (omega arith) (omega arith)
