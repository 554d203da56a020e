use mathlib.Core.Path.{◌≡◌}
use Prim.Native.Nat.{◌-◌, ◌/◌, ◌≤◌}
use lib.ListN.{length}
use Rattle.word.specs.Bytes.{words}
use Rattle.isa.specs.Program.{following}
use Rattle.isa.proofs.program.following.Given as goal

abbrev pub invariant-loop-i : goal.invariant-loop-i
invariant-loop-i l =
    let p = words l.program in
    (l.i ≤ length l.program / 4) × (following p l.i ≡ following p l.initial.i)

abbrev pub decreases-loop-i : goal.decreases-loop-i
decreases-loop-i l = l.n - l.i
