-- Laws of the latest tick: it is no earlier than any, and how it grows.
use mathlib.Core.Path.{◌≡◌}
use mathlib.Core.Logic.{⊎_elim}
use mathlib.Core.List.{List, [], ◌∷◌}
use Prim.Native.Nat.{ℕ, zero, suc, ◌+◌, ◌≤◌, ◌<◌, zero-le}
use native.Mathlib.Nat.{le_refl, le_trans}
use native.Mathlib.Numerals.{add-one}
use native.Mathlib.Omega.{arith}
use lib.Dec.{ltb}
use lib.ListN.{length, get_or, get_or-map, drop, drop_of_length-le}
use lib.Seq.{drop-cons}
use borrow.Author.Tests.{ltb-true, ltb-false}
use Rattle.word.proofs.Choice.{by_test}
use Rattle.ticks.specs.declared.Register.{Register}
use Rattle.ticks.specs.Ticks.{blank, ready_ticks, Freed, latest}

pub later_first : (a b : ℕ) → a ≤ latest a (b ∷ [])
later_first a b = ⊎_elim (λ e. rw e (omega (arith, ltb-true a b e))) (λ e. rw e (le_refl a)) (by_test (ltb a b))

pub later_second : (a b : ℕ) → b ≤ latest a (b ∷ [])
later_second a b = ⊎_elim (λ e. rw e (le_refl b)) (λ e. rw e (omega (arith, ltb-false a b e))) (by_test (ltb a b))

-- of those that are busy none is from a later tick on either
pub freed_later : {t a : ℕ} (b : ℕ) (rs : List Register) → Freed t a rs → Freed t (latest a (b ∷ [])) rs
freed_later {a} b rs h q l = le_trans (h q l) (later_first a b)

above : (t : ℕ) (rs : List ℕ) → t ≤ latest t rs
above t [] = le_refl t
above t (r ∷ rs) = le_trans (later_first t r) (above (latest t (r ∷ [])) rs)

pub latest_each : (t : ℕ) (rs : List ℕ) (q : ℕ) → get_or rs q 0 ≤ latest t rs
latest_each t [] q = zero-le
latest_each t (r ∷ rs) zero = le_trans (later_second t r) (above (latest t (r ∷ [])) rs)
latest_each t (r ∷ rs) (suc q) = latest_each (latest t (r ∷ [])) rs q

-- from then on none is busy
pub latest_frees : (t : ℕ) (rs : List Register) → Freed t (latest 0 (ready_ticks rs)) rs
latest_frees t rs q h = rw (get_or-map (λ (r : Register). r.ready) rs q blank) at (latest_each 0 (ready_ticks rs) q)

-- one more of a list
pub latest_next : (rs : List ℕ) (k u d : ℕ) → k < length rs → latest u (drop k rs) ≡ latest (latest u (get_or rs k d ∷ [])) (drop (k + 1) rs)
latest_next rs k u d h = rw (drop-cons rs k d h, add-one)

pub latest_last : (rs : List ℕ) (k u : ℕ) → length rs ≤ k → latest u (drop k rs) ≡ u
latest_last rs k u h = rw (drop_of_length-le rs {i = k} h)
