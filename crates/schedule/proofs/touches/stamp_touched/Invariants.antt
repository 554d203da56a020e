use mathlib.Core.Path.{◌≡◌}
use mathlib.Core.List.{map}
use Prim.Native.Nat.{ℕ}
use lib.ListN.{length, get_or}
use Rattle.word.specs.Bytes.{words}
use Rattle.word.specs.Choice.{pick}
use Rattle.word.specs.Lists.{any}
use Rattle.isa.specs.Program.{spots, operation}
use Rattle.isa.specs.Walk.{spots_left}
use Rattle.schedule.specs.Stamps.{names}
use Rattle.schedule.proofs.Laid.{Few}
use Rattle.schedule.proofs.touches.stamp_touched.Given as goal

abbrev pub invariant-loop-x : goal.invariant-loop-x
invariant-loop-x l =
    let xs = spots_left l.x-iterator in
    Few xs × (length l.stamps ≡ 288)
    × ((r : ℕ) → pick (any (names r) (map operation xs)) l.n (get_or l.stamps r 0)
    ≡ pick (any (names r) (map operation (spots (words l.stretch)))) l.n (get_or l.initial.stamps r 0))
