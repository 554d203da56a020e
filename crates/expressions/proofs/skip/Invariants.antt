use Prim.Native.Nat.{◌-◌}
use lib.ListN.{length}
use Rattle.expressions.proofs.Skips.{Skips}
use Rattle.expressions.proofs.skip.Given as goal

abbrev pub invariant-loop-from : goal.invariant-loop-from
invariant-loop-from l = Skips l.line l.at l.p l.«open» l.first

abbrev pub decreases-loop-from : goal.decreases-loop-from
decreases-loop-from l = length l.line - l.p
