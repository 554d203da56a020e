use mathlib.Core.Path.{◌≡◌}
use Prim.Native.Nat.{◌-◌, ◌≤◌}
use lib.ListN.{length}
use Rattle.word.specs.Bytes.{words}
use Rattle.isa.specs.Program.{following}
use Rattle.refusals.proofs.control.last_start.Given as goal

abbrev pub invariant-loop-i : goal.invariant-loop-i
invariant-loop-i l = let p = words l.program in (1 ≤ l.i) × (l.i ≤ length p) × (following p (l.i - 1) ≡ length p)

abbrev pub decreases-loop-i : goal.decreases-loop-i
decreases-loop-i l = l.i
