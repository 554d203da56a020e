-- Laws of decimal digits.
use mathlib.Core.Path.{◌≡◌, ap}
use mathlib.Core.List.{List, [], ◌∷◌}
use Prim.Native.Nat.{ℕ, ◌+◌, ◌*◌, ◌-◌, ◌≤◌, ◌<◌}
use native.Mathlib.Omega.{arith}
use lib.ListN.{length, drop, get_or}
use Rattle.tokens.proofs.Places.{byte_at}
use Rattle.values.specs.Values.{decimal_from}

-- decimal digits only make it larger
pub decimal_grows : (v : ℕ) (w : List ℕ) → v ≤ decimal_from v w
decimal_grows v [] = omega arith
decimal_grows v (b ∷ w) = let h = decimal_grows (v * 10 + (b - 48)) w in omega arith

pub decimal_more : (v i : ℕ) (w : List ℕ) → i < length w → decimal_from v (drop i w) ≡ decimal_from (v * 10 + (get_or w i 0 - 48)) (drop (i + 1) w)
decimal_more v i w h = ap (decimal_from v) (byte_at w i h)
