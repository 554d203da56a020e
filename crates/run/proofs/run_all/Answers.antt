-- The invariant: so many instructions are done, and the run goes on from where it stands.
use native.Mathlib.Omega.{arith}
use Rattle.run.proofs.Endings.{loop_begun, loop_on, loop_off, loop_done}
use Rattle.run.proofs.run_all.Goals as goal

pub loop-i-init : goal.loop-i-init
loop-i-init c = loop_begun c.requires.running c.requires.none

pub step-requires-clause-running : goal.step-requires-clause-running
step-requires-clause-running c = c.loop-i.invariant.running

pub step-requires-clause-t_bound : goal.step-requires-clause-t_bound
step-requires-clause-t_bound c = (omega (arith, c.loop-i-test.true, c.requires.n_bound), c.loop-i.invariant.used)

pub returns-in-Err : goal.returns-in-Err
returns-in-Err c = loop_off c.loop-i.invariant c.loop-i-test.true c.in-Err.ensures

pub loop-i-preserved : goal.loop-i-preserved
loop-i-preserved c = loop_on c.loop-i.invariant c.loop-i-test.true c.in-Ok.ensures

pub returns : goal.returns
returns c = loop_done c.loop-i.invariant c.loop-i.auto.i-end c.loop-i-test.false
