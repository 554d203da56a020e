-- The list has the result after the others, or is as it was.
use mathlib.Core.Logic.{inl, inr}
use Rattle.schedule.proofs.Keeping.{passed_over, kept}
use Rattle.schedule.proofs.late.keep.Goals as goal

pub returns-then-register-eq0-clause-late_of : goal.returns-then-register-eq0-clause-late_of
returns-then-register-eq0-clause-late_of c = λ es h.
    rw (← c.delay-wait.ensures) (passed_over _ _ h (elim c.then-register-eq0.either [ inl e ↦ inl e | inr w ↦ inr w.1 ]))

pub returns-clause-late_of : goal.returns-clause-late_of
returns-clause-late_of c = λ es h.
    rw (c.push.ensures.items, ← c.delay-wait.ensures)
    (kept _ _ h c.if-register-eq0.false c.requires.register_bound (rw c.delay-wait.ensures (c.requires.by_index c.args.opcode c.args.register)) c.requires.count_bound)
