use mathlib.Core.Path.{◌≡◌}
use mathlib.Core.Bool.{true, false}
use Prim.Native.Nat.{◌-◌, ◌<◌}
use lib.ListN.{length}
use Rattle.word.specs.Bytes.{words}
use Rattle.isa.specs.Program.{is_start}
use Rattle.isa.proofs.program.is_start.Given as goal

abbrev pub invariant-loop-i : goal.invariant-loop-i
invariant-loop-i l =
    let p = words l.program in
    (l.i.0 < length p → is_start p l.i.0 ≡ true) × (l.at.0 < l.i.0 → is_start p l.at.0 ≡ false)

abbrev pub decreases-loop-i : goal.decreases-loop-i
decreases-loop-i l = l.at.0 - l.i.0
