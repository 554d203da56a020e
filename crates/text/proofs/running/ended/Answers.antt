use mathlib.Core.Path.{◌≡◌, sym, ◌∙◌}
use mathlib.Core.List.{[]}
use Rattle.call.specs.Run.{Outcome}
use Rattle.text.specs.Output.{Runs, ending_answer}
use Rattle.text.specs.Rows.{answer_row}
use Rattle.text.proofs.Outputs.{first_put, alone, followed_by, with_registers, without_registers}
use Rattle.text.proofs.running.ended.Goals as goal

pub returns-then-went_on-clause-is : goal.returns-then-went_on-clause-is
returns-then-went_on-clause-is c =
    let o : Outcome = record { result = c.args.number; state = c.args.image.now; memory = []; room = c.args.room.now } in
    let f : c.push_answer.new.out.items ≡ answer_row (ending_answer (Runs o)) = rw (← c.word_at.ensures, ← c.word_at-2.ensures) (first_put c.requires c.push_answer.ensures.is) in
    followed_by (Runs o) f c.put_registers.ensures.is (with_registers o (sym c.went_on.ensures ∙ c.if-went_on.true))

pub returns-else-went_on-clause-is : goal.returns-else-went_on-clause-is
returns-else-went_on-clause-is c =
    let o : Outcome = record { result = c.args.number; state = c.args.image.now; memory = []; room = c.args.room.now } in
    let f : c.push_answer.new.out.items ≡ answer_row (ending_answer (Runs o)) = rw (← c.word_at.ensures, ← c.word_at-2.ensures) (first_put c.requires c.push_answer.ensures.is) in
    alone (Runs o) f (without_registers o (sym c.went_on.ensures ∙ c.if-went_on.false))
