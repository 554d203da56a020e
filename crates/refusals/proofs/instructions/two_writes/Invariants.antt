use mathlib.Core.Path.{◌≡◌}
use mathlib.Core.Bool.{Bool}
use mathlib.Core.List.{List, map}
use Prim.Native.Nat.{ℕ, ◌+◌, ◌<◌}
use lib.ListN.{drop}
use Rattle.std.specs.Iterator.Adapters.{enumerate_source, enumerate_count}
use Rattle.word.specs.Bytes.{words}
use Rattle.word.specs.Lists.{repeats}
use Rattle.isa.specs.Program.{spots, operation}
use Rattle.isa.specs.Touch.{destinations}
use Rattle.isa.specs.Walk.{spots_left}
use Rattle.isa.specs.declared.Spot.{Spot}
use Rattle.refusals.proofs.Stamps.{clashes, Sized}
use Rattle.refusals.proofs.Turns.{Passed}
use Rattle.refusals.proofs.instructions.two_writes.Given as goal

abbrev pub repeated : List Spot → Bool
repeated xs = repeats (destinations (map operation xs))

-- or one of the destinations has the stamp n
abbrev pub stamped_or_repeated : ℕ → List ℕ → List Spot → Bool
stamped_or_repeated n m xs = clashes n m (destinations (map operation xs))

abbrev pub invariant-loop-i : goal.invariant-loop-i
invariant-loop-i l =
    let i = enumerate_count l.i-iterator in
    (spots_left (enumerate_source l.i-iterator) ≡ drop i (spots (words l.program)))
    × Sized i l.stamps
    × (0 < i → Sized (l.at.0 + 1) l.stamps × Passed repeated l.program l.at.0 i (stamped_or_repeated (l.at.0 + 1) l.stamps))
