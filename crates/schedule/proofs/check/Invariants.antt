use mathlib.Core.Path.{◌≡◌}
use mathlib.Core.Bool.{true}
use Prim.Native.Nat.{ℕ, ◌-◌, ◌<◌}
use lib.ListN.{length}
use Rattle.word.specs.Bytes.{words}
use Rattle.isa.specs.Program.{is_start}
use Rattle.schedule.specs.Rule.{TooSoonAt}
use Rattle.schedule.proofs.Stamps.{Told}
use Rattle.schedule.proofs.Soon.{Soon}
use Rattle.schedule.proofs.check.Given as goal

abbrev pub invariant-registers : goal.invariant-registers
invariant-registers l =
    (b : ℕ) → b < l.r-index → Soon (words l.program) l.r-items l.q-items l.q-index b → ⊥

abbrev pub invariant-consumers : goal.invariant-consumers
invariant-consumers l =
    Told (words l.program) l.stamps
    × ((a : ℕ) → a < l.q-index → (b : ℕ) → b < length l.late.items → Soon (words l.program) l.late.items l.q-items a b → ⊥)

abbrev pub invariant-producers : goal.invariant-producers
invariant-producers l =
    let w = words l.program in
    Told w l.stamps × (l.p.0 < length w → is_start w l.p.0 ≡ true) × ((i : ℕ) → i < l.p.0 → (j : ℕ) → TooSoonAt l.table.delays w i j → ⊥)

abbrev pub decreases-producers : goal.decreases-producers
decreases-producers l = l.n - l.p.0
