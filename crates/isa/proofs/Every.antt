-- Every register stands in the list of all, and none else.
use mathlib.Core.Path.{◌≡◌, refl, sym}
use mathlib.Core.Logic.{⊎_elim}
use mathlib.Core.Bool.{Bool, true, false, ◌&&◌}
use mathlib.Core.List.Memᴰ
use mathlib.Core.List.{[], Memᴰ}
use Prim.Native.Nat.{ℕ, zero, suc, ◌+◌, ◌≤◌, ◌<◌}
use native.Mathlib.Nat.{eq-or-lt_of_le}
use native.Mathlib.Omega.{arith}
use Rattle.word.specs.Choice.{pick}
use Rattle.word.specs.Lists.{any, any_below}
use Rattle.word.proofs.Choice.{bool_same}
use Rattle.word.proofs.Lists.{any_true_in, any_some_in, any_below_true, any_below_some}
use Rattle.isa.specs.Touch.{registers_from, every_register}

from_in : (s n r : ℕ) → s ≤ r → r < s + n → Memᴰ r (registers_from s n)
from_in s zero r a b = absurd (omega arith)
from_in s (suc n) r a b = ⊎_elim (λ (e : s ≡ r). Memᴰ.head (sym e)) (λ l. Memᴰ.tail (from_in (suc s) n r l (omega arith))) (eq-or-lt_of_le a)

from_below : (s n r : ℕ) → Memᴰ r (registers_from s n) → r < s + n
from_below s zero r m = absurd (Memᴰ.not-nil m)
from_below s (suc n) r m = ⊎_elim (λ (e : r ≡ s). omega arith) (λ t. omega (arith, from_below (suc s) n r t)) (Memᴰ.cases_cons m)

pub every_in : (r : ℕ) → r < 288 → Memᴰ r every_register
unfolding every_register
every_in r h = from_in 0 288 r (omega arith) (omega arith)

every_below : (r : ℕ) → Memᴰ r every_register → r < 288
unfolding every_register
every_below r m = omega (arith, from_below 0 288 r m)

-- a test of every register
any_every : (f : ℕ → Bool) → any f every_register ≡ any_below f 288
any_every f =
    bool_same _ _
    (λ e. let (r, m, h) = any_true_in f every_register e in any_below_some f 288 r (every_below r m) h)
    (λ e. let (r, b, h) = any_below_true f 288 e in any_some_in f (every_in r b) h)

-- where it is asked of them
pub any_if : (f : ℕ → Bool) (b : Bool) → any f (pick b every_register []) ≡ b && any_below f 288
any_if f true = any_every f
any_if f false = refl
