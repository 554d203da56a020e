-- The syllables that are left go where all go.
use mathlib.Core.Path.{sym, ◌∙◌}
use Rattle.isa.specs.Walk.{spots_left}
use Rattle.isa.proofs.Ways.{along_only, nexts_step}
use Rattle.isa.proofs.control.nexts.Goals as goal

pub returns-then-controls : goal.returns-then-controls
returns-then-controls c =
    c.nexts_by.ensures _ ∙ sym (nexts_step c.args.j.0 c.in-Some.x (spots_left c.next.new.self) c.way-w.ensures) ∙ rw c.in-Some.ensures.steps at c.loop-x.invariant

pub loop-x-preserved : goal.loop-x-preserved
loop-x-preserved c =
    let e = nexts_step c.args.j.0 c.in-Some.x (spots_left c.next.new.self) c.way-w.ensures in
    rw (along_only c.way-w.result (sym c.controls.ensures ∙ c.if-controls.false)) at (sym e) ∙ rw c.in-Some.ensures.steps at c.loop-x.invariant

pub returns : goal.returns
returns c = rw c.in-None.ensures.steps.0 at c.loop-x.invariant
