use mathlib.Core.Path.{sym, ap, ◌∙◌}
use mathlib.Core.List.{List}
use Prim.Native.Nat.{ℕ}
use Rattle.loader.specs.Answer.{answer}
use Rattle.assembler.specs.Answer.{Assembled}
use Rattle.assembler.specs.Passes.{verdict_in}
use Rattle.assembler.proofs.Answers.{fault_left, unfit_left, roomless_left, good_left, holds}
use Rattle.assembler.proofs.answer.Goals as goal

pub returns-then-is_unfit : goal.returns-then-is_unfit
returns-then-is_unfit c =
    rw c.refused-then-is_unfit.ensures (unfit_left c.args.text.now c.args.program.now c.args.room (ap verdict_in c.in-Ok.is) c.judge.ensures.0 (sym c.is_unfit.ensures ∙ c.if-is_unfit.true))

pub returns-then-room-ne12 : goal.returns-then-room-ne12
returns-then-room-ne12 c =
    rw c.refused-then-room-ne12.ensures (roomless_left c.args.text.now c.args.program.now c.args.room (ap verdict_in c.in-Ok.is) c.judge.ensures.0 (sym c.is_unfit.ensures ∙ c.if-is_unfit.false) c.if-room-ne12.true)

pub write-requires : goal.write-requires
write-requires c =
    holds c.args.text.now c.args.program.now c.args.room (ap verdict_in c.in-Ok.is) c.judge.ensures.0 (sym c.is_unfit.ensures ∙ c.if-is_unfit.false)

pub returns-in-Err : goal.returns-in-Err
returns-in-Err c =
    rw (c.refused.ensures, c.number.ensures) (fault_left c.args.text.now c.args.program.now c.args.room (ap verdict_in c.in-Err.is) c.judge.ensures.0)

pub returns : goal.returns
returns c =
    ap (λ (x : List ℕ). let r : Assembled = record { answer = answer 0 c.in-Ok.n 0; program = x } in r) c.write.ensures
    ∙ good_left c.args.text.now c.args.program.now c.args.room (ap verdict_in c.in-Ok.is) c.judge.ensures.0 (sym c.is_unfit.ensures ∙ c.if-is_unfit.false) c.if-room-ne12.false
