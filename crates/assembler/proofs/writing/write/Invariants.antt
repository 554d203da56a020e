use mathlib.Core.Path.{◌≡◌}
use mathlib.Core.List.{map}
use Prim.Native.Nat.{◌*◌, ◌^◌, ◌≤◌, ◌<◌}
use lib.Seq.{sets}
use Rattle.std.specs.Prelude.{IfSome}
use Rattle.lines.specs.Lines.{word_bytes}
use Rattle.source.specs.Reader.{hear, hear_all}
use Rattle.source.specs.Seek.{walk_of}
use Rattle.source.specs.Each.{left}
use Rattle.evaluation.specs.Evaluated.{labels_of}
use Rattle.assembler.specs.Program.{program as program_of}
use Rattle.assembler.proofs.Putting.{Rest}
use Rattle.assembler.proofs.writing.write.Given as goal

abbrev pub invariant-loop-l : goal.invariant-loop-l
invariant-loop-l l =
    (l.l-iterator.text.now ≡ l.labels.text.now) × IfSome l.l-iterator.next (λ at. l.w.count ≤ at * 2) × (l.p.last < 2 ^ 31)
    × Rest (labels_of l.labels.text.now) l.program (sets l.initial.program 0 (word_bytes (program_of (hear_all l.labels.text.now)))) (walk_of l.w) l.p.out l.p.last (map hear (left l.l-iterator))
