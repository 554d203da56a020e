-- Document 01, "Schedule rule".
use Rattle.std.specs.Prelude.{◌≡◌, Bool, true, ℕ, zero, suc, ◌≤◌, ◌<◌}
use mathlib.Core.List.{List, Memᴰ}
use Rattle.vliw.specs.Machine.{Dest}

-- q is reached from p by k nexts
module _ (nexts : ℕ → List ℕ) where
  abbrev pub Reach : ℕ → ℕ → ℕ → Type 0
  Reach p zero q = p ≡ q
  Reach p (suc k) q = (m : ℕ) × Reach p k m × Memᴰ q (nexts m)

-- "an instruction p has a result with delay L in a register, not register 0, and some q is reached from p by k nexts, 1 <= k <= L-1,
-- and q reads or writes that register": a destination in register 0 is no result
module _ (starts : ℕ → Bool) (dests : ℕ → List Dest) (nexts : ℕ → List ℕ) (uses : ℕ → List ℕ) where
  pub record TouchesTooSoon (p q : ℕ) : Type 0 where
    pub producer : starts p ≡ true
    pub result : Dest
    pub of : Memᴰ result (dests p)
    pub k : ℕ
    pub after : 1 ≤ k
    pub before : k < result.delay
    pub path : Reach nexts p k q
    pub touched : Memᴰ result.reg (uses q)

  -- no path touches a result too soon
  abbrev pub NoneTooSoon : Type 0
  NoneTooSoon = (p q : ℕ) → TouchesTooSoon p q → ⊥
