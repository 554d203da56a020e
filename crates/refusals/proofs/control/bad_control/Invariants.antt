use mathlib.Core.Path.{◌≡◌}
use Prim.Native.Nat.{◌-◌, ◌≤◌}
use lib.ListN.{length}
use Rattle.word.specs.Lists.{NoneBelow}
use Rattle.word.specs.Bytes.{words}
use Rattle.isa.specs.Program.{spot_before}
use Rattle.refusals.specs.Broken.{bad_control_at}
use Rattle.refusals.proofs.control.bad_control.Given as goal

abbrev pub invariant-loop-i : goal.invariant-loop-i
invariant-loop-i l =
    let p = words l.program in
    (l.i ≤ length p) × (l.x ≡ spot_before p l.i) × NoneBelow (bad_control_at p) l.i

abbrev pub decreases-loop-i : goal.decreases-loop-i
decreases-loop-i l = l.i-end - l.i
