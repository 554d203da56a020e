use Prim.Native.Nat.{◌+◌, ◌*◌, ◌≤◌}
use lib.ListN.{length}
use Rattle.lines.proofs.Tables.{Begun}
use Rattle.lines.proofs.reading.first_line.Given as goal

abbrev pub invariant-loop-item : goal.invariant-loop-item
invariant-loop-item l =
    (length l.text ≤ 32768) × (length l.table.items * 3 + length l.rest ≤ length l.text) × Begun l.text l.table.items l.rest

abbrev pub decreases-loop-item : goal.decreases-loop-item
decreases-loop-item l = length l.rest
