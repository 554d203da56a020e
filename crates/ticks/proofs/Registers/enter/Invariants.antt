-- The invariant: those so far are the state's.
use Rattle.std.proofs.Common.{◌≡◌, ℕ, ◌<◌, length}
use Rattle.vliw.specs.Cell.{at}
use Rattle.machine.specs.State.{registers_of}
use Rattle.ticks.specs.Ticks.{register_at, view_of}
use Rattle.ticks.proofs.Registers.enter.Given as goal

abbrev pub invariant-loop-r : goal.invariant-loop-r
invariant-loop-r l =
    (length l.self.all ≡ 288) × ((k : ℕ) → k < l.r → view_of 0 (register_at l.self.all k) ≡ at (registers_of l.s) k)

abbrev pub invariant-loop-r-2 : goal.invariant-loop-r-2
invariant-loop-r-2 l =
    (length l.self.all ≡ 288) × ((k : ℕ) → k < l.r → view_of 0 (register_at l.self.all k) ≡ at (registers_of l.s) k)
