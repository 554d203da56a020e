use native.Mathlib.Omega.{arith}
use Rattle.text.proofs.Outputs.{as_call, as_run}
use Rattle.text.proofs.running.ran.Goals as goal

pub returns-clause-is : goal.returns-clause-is
returns-clause-is c =
    let t = c.args.text.now in
    rw (c.as_slice.ensures.value, c.as_slice-2.ensures.value) at (as_run c.vex_run-number.result _ _ _ c.vex_run-number.ensures (as_call c.as_slice.result.now c.as_slice-2.result.now t.memory t.n (omega arith)) c.ended.ensures.is)
