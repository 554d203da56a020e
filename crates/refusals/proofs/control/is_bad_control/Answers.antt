-- The code's tests are the definition's.
use Rattle.refusals.specs.Broken.{bad_control_at}
use Rattle.refusals.proofs.control.is_bad_control.Goals as goal

pub returns-then-strays : goal.returns-then-strays
unfolding bad_control_at
returns-then-strays c = let e = rw c.requires.x_value at c.strays.ensures in rw (← e, c.if-strays.true)

pub returns-else-strays : goal.returns-else-strays
unfolding bad_control_at
returns-else-strays c =
    let e = rw c.requires.x_value at c.strays.ensures in
    rw (← e, c.if-strays.false) c.runs_out.ensures
