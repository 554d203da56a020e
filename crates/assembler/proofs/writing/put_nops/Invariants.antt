use mathlib.Core.Path.{◌≡◌}
use Prim.Native.Nat.{◌*◌}
use lib.Seq.{sets}
use Rattle.lines.specs.Lines.{word_bytes}
use Rattle.assembler.specs.Program.{nops}
use Rattle.assembler.proofs.writing.put_nops.Given as goal

abbrev pub invariant-loop-i : goal.invariant-loop-i
invariant-loop-i l = l.program ≡ sets l.initial.program (l.out * 4) (word_bytes (nops l.i))
