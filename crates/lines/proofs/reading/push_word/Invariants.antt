use mathlib.Core.Path.{◌≡◌}
use mathlib.Core.List.{◌++◌}
use Prim.Native.Nat.{◌+◌, ◌≤◌}
use lib.ListN.{length, take}
use Rattle.lines.proofs.reading.push_word.Given as goal

abbrev pub invariant-loop-b : goal.invariant-loop-b
invariant-loop-b l =
    (length l.initial.program.items + 4 ≤ 16384) × (length l.program.items ≡ length l.initial.program.items + l.b-index) × (l.program.items ≡ l.initial.program.items ++ take l.b-index l.b-items)
