use Rattle.operations.proofs.Naming.{Passed}
use Rattle.operations.proofs.words.row_of.Given as goal

abbrev pub invariant-loop-row : goal.invariant-loop-row
invariant-loop-row l = Passed l.w l.row
