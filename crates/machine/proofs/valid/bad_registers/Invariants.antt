-- The invariant: whether one of those so far breaks.
use Rattle.std.proofs.Common.{◌≡◌}
use Rattle.word.specs.Lists.{any_below}
use Rattle.vliw.specs.Cell.{at}
use Rattle.machine.specs.State.{registers_of}
use Rattle.machine.specs.Valid.{bad_register}
use Rattle.machine.proofs.valid.bad_registers.Given as goal

abbrev pub invariant-loop-r : goal.invariant-loop-r
invariant-loop-r l = l.broken ≡ any_below (λ r. bad_register r (at (registers_of l.s) r)) l.r

abbrev pub invariant-loop-r-2 : goal.invariant-loop-r-2
invariant-loop-r-2 l = l.broken ≡ any_below (λ r. bad_register r (at (registers_of l.s) r)) l.r
