-- The invariant: the latest of the ticks that are left is the latest of all.
use Rattle.std.proofs.Common.{◌≡◌, drop}
use Rattle.ticks.specs.Ticks.{latest, ready_ticks}
use Rattle.ticks.proofs.Registers.free_from.Given as goal

abbrev pub invariant-loop-r : goal.invariant-loop-r
invariant-loop-r l = latest l.free.0 (ready_ticks (drop l.r-index l.self.all)) ≡ latest 0 (ready_ticks l.self.all)
