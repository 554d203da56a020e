-- The invariant: the state's registers so far are those at tick t.
use Rattle.std.proofs.Common.{◌≡◌, ℕ, ◌<◌}
use Rattle.vliw.specs.Cell.{at}
use Rattle.machine.specs.State.{registers_of, Sized}
use Rattle.ticks.specs.Ticks.{register_at, view_of}
use Rattle.ticks.proofs.Registers.leave.Given as goal

abbrev pub invariant-loop-r : goal.invariant-loop-r
invariant-loop-r l =
    Sized l.s × (l.s.place ≡ l.fn.place) × (l.s.link ≡ l.fn.link)
    × ((k : ℕ) → k < l.r → view_of l.t.0 (register_at l.self.all k) ≡ at (registers_of l.s) k)
