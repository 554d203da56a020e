use Prim.Native.Nat.{◌+◌, ◌*◌, ◌≤◌}
use lib.ListN.{length}
use Rattle.lines.specs.Lines.{newline, pieces, program_from}
use Rattle.lines.proofs.Programs.{Left}
use Rattle.lines.proofs.reading.instructions.Given as goal

abbrev pub invariant-loop-rest : goal.invariant-loop-rest
invariant-loop-rest l =
    (length l.text ≤ 32768) × (l.line + length l.rest ≤ 4 + length l.text) × (length l.program.items * 9 + length l.rest * 4 ≤ length l.text * 4)
    × Left (program_from 4 (pieces newline l.text)) l.program.items l.line l.rest

abbrev pub decreases-loop-rest : goal.decreases-loop-rest
decreases-loop-rest l = length l.rest
