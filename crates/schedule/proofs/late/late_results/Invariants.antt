use mathlib.Core.Path.{◌≡◌}
use mathlib.Core.List.{List, ◌++◌, map}
use Prim.Native.Nat.{◌+◌, ◌*◌, ◌≤◌}
use lib.ListN.{length}
use Rattle.word.specs.Bytes.{words}
use Rattle.vliw.specs.Machine.{Dest}
use Rattle.isa.specs.Program.{spots, operation}
use Rattle.isa.specs.Touch.{dests}
use Rattle.isa.specs.Walk.{spots_left}
use Rattle.schedule.specs.Late.{LateOf}
use Rattle.schedule.proofs.Laid.{Few}
use Rattle.schedule.proofs.late.late_results.Given as goal

abbrev pub invariant-loop-x : goal.invariant-loop-x
invariant-loop-x l =
    let xs = spots_left l.x-iterator in
    Few xs × (length l.late.items + 2 * length xs ≤ 64)
    × (es : List Dest) × LateOf es l.late.items × (es ++ dests l.d (map operation xs) ≡ dests l.d (map operation (spots (words l.stretch))))
