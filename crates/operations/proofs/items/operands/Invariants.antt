use Rattle.operations.proofs.Gathering.{Gathers}
use Rattle.operations.proofs.items.operands.Given as goal

abbrev pub invariant-loop-k : goal.invariant-loop-k
invariant-loop-k l = Gathers l.line l.at l.front.cluster l.front.from l.row l.base l.p l.k-index l.o
