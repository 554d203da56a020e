-- All are the state's, and fit.
use native.Mathlib.Omega.{arith}
use Rattle.std.proofs.Common.{◌≡◌}
use Rattle.machine.specs.State.{registers_of}
use Rattle.machine.proofs.Arrays.{registers_of_length}
use Rattle.ticks.specs.Ticks.{views}
use Rattle.ticks.proofs.Cells.{views_same, entered_bank}
use Rattle.ticks.proofs.Registers.enter.Goals as goal

entered : (c : goal.After-loop-r-2) → views 0 c.loop-r-2.self.all ≡ registers_of c.args.s.now
entered c =
    views_same 0 c.loop-r-2.self.all (registers_of c.args.s.now) c.loop-r-2.invariant.0 (registers_of_length c.requires.sized) (λ k h. c.loop-r-2.invariant.1 k (omega arith))

pub returns-clause-bank : goal.returns-clause-bank
returns-clause-bank c = entered_bank c.loop-r-2.self.all (registers_of c.args.s.now) c.loop-r-2.invariant.0 (entered c) c.requires.by_index

pub returns-clause-is : goal.returns-clause-is
returns-clause-is c = entered c
