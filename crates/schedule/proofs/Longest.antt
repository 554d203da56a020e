-- The longest delay of the late results is no lower than any, and as low as they all are.
use mathlib.Core.List.{List, [], ◌∷◌}
use Prim.Native.Nat.{ℕ, zero, suc, ◌≤◌, ◌<◌, max}
use native.Mathlib.Omega.{arith}
use lib.ListN.{length}
use Rattle.std.specs.List.{fold}
use Rattle.schedule.specs.Late.{late_at}
use Rattle.schedule.specs.declared.late.Late.{Late}

abbrev longest_from : ℕ → List Late → ℕ
longest_from a late = fold (λ a (x : Late). max a x.delay) a late

abbrev pub fold_longest : List Late → ℕ
fold_longest late = fold (λ a (x : Late). max a x.delay) 0 late

from_above : (a : ℕ) (late : List Late) → a ≤ longest_from a late
from_above a [] = omega arith
from_above a (x ∷ xs) = omega (arith, from_above (max a x.delay) xs)

each_above : (a : ℕ) (late : List Late) (i : ℕ) → i < length late → (late_at late i).delay ≤ longest_from a late
each_above a [] i h = absurd (omega arith)
each_above a (x ∷ xs) zero h = omega (arith, from_above (max a x.delay) xs)
each_above a (x ∷ xs) (suc i) h = each_above (max a x.delay) xs i (omega arith)

pub longest_above : (late : List Late) (i : ℕ) → i < length late → (late_at late i).delay ≤ fold_longest late
longest_above late i h = each_above 0 late i h

within : (n a : ℕ) (late : List Late) → a ≤ n → ((i : ℕ) → i < length late → (late_at late i).delay ≤ n) → longest_from a late ≤ n
within n a [] h k = h
within n a (x ∷ xs) h k = within n (max a x.delay) xs (omega (arith, k 0 (omega arith))) (λ i b. k (suc i) (omega arith))

pub longest_within : (n : ℕ) (late : List Late) → ((i : ℕ) → i < length late → (late_at late i).delay ≤ n) → fold_longest late ≤ n
longest_within n late k = within n 0 late (omega arith) k
