use Rattle.operations.proofs.Gathering.{refused, next}
use Rattle.operations.proofs.items.operands.Goals as goal

pub returns-in_err-s : goal.returns-in_err-s
returns-in_err-s c = rw c.from_residual.ensures (refused c.loop-k.invariant c.loop-k-test.true c.if-k-eq32.false c.in_err-s.was c.item_at.ensures, tt)

pub loop-k-preserved : goal.loop-k-preserved
loop-k-preserved c = next c.loop-k.invariant c.loop-k-test.true c.if-k-eq32.false c.in_ok-s.was c.item_at.ensures c.join.ensures
