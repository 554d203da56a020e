use mathlib.Core.Path.{◌≡◌}
use Prim.Native.Nat.{◌<◌}
use lib.ListN.{drop}
use Rattle.std.specs.Iterator.Adapters.{enumerate_source, enumerate_count}
use Rattle.word.specs.Bytes.{words}
use Rattle.isa.specs.Program.{spots}
use Rattle.isa.specs.Walk.{spots_left}
use Rattle.refusals.specs.Broken.{too_wide}
use Rattle.refusals.proofs.Takes.{rest}
use Rattle.refusals.proofs.Turns.{Passed}
use Rattle.refusals.proofs.instructions.too_wide.Given as goal

abbrev pub invariant-loop-i : goal.invariant-loop-i
invariant-loop-i l =
    let i = enumerate_count l.i-iterator in
    (spots_left (enumerate_source l.i-iterator) ≡ drop i (spots (words l.program)))
    × (l.left.clusters ≡ l.table.clusters)
    × (0 < i → Passed (too_wide l.table) l.program l.at.0 i (rest l.table.clusters l.left l.controlled))
