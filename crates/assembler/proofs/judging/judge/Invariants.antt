use mathlib.Core.Path.{◌≡◌}
use Prim.Native.Nat.{◌*◌, ◌≤◌}
use Rattle.std.specs.Prelude.{IfSome}
use Rattle.std.specs.Iterator.Adapters.{enumerate_source, enumerate_count}
use Rattle.source.specs.Grammar.{lines_of}
use Rattle.source.specs.Walk.{start}
use Rattle.source.specs.Seek.{walk_of}
use Rattle.assembler.specs.Passes.{judged_from}
use Rattle.assembler.proofs.Judged.{judged_on}
use Rattle.assembler.proofs.judging.judge.Given as goal

abbrev pub invariant-loop-line : goal.invariant-loop-line
invariant-loop-line l =
    ((enumerate_source l.line-iterator).text.now ≡ l.labels.text.now)
    × IfSome (enumerate_source l.line-iterator).next (λ at. (l.w.count ≤ at * 2) × (enumerate_count l.line-iterator ≤ at))
    × (judged_from l.labels.text.now start 0 0 (lines_of l.labels.text.now) ≡ judged_on l.labels.text.now (walk_of l.w) (enumerate_source l.line-iterator).next (enumerate_count l.line-iterator))
