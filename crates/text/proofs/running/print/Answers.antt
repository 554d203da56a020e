use mathlib.Core.Path.{sym, ◌∙◌}
use Rattle.text.proofs.Outputs.{too_long, bad_line, refused_text, run_text}
use Rattle.text.proofs.running.print.Goals as goal

pub returns-then-input-gt32768-clause-is : goal.returns-then-input-gt32768-clause-is
returns-then-input-gt32768-clause-is c = c.unread.ensures.is ∙ sym (too_long c.args.input.now c.if-input-gt32768.true)

pub returns-in-Err-clause-is : goal.returns-in-Err-clause-is
returns-in-Err-clause-is c =
    let e = bad_line c.args.input.now c.in-Err.field-0 c.if-input-gt32768.false c.in-Err.ensures.is in
    c.unread-in-Err.ensures.is ∙ sym (rw c.in-Err.field-0-is at e)

pub returns-in-Ok-clause-is : goal.returns-in-Ok-clause-is
returns-in-Ok-clause-is c =
    c.refused.ensures.is ∙ sym (refused_text c.args.input.now c.read_into.new.into c.if-input-gt32768.false c.in-Ok.ensures.is c.if-text-gt16384.true)

pub returns-in-Ok-2-clause-is : goal.returns-in-Ok-2-clause-is
returns-in-Ok-2-clause-is c =
    c.ran.ensures.is ∙ sym (run_text c.args.input.now c.read_into.new.into c.if-input-gt32768.false c.in-Ok.ensures.is c.if-text-gt16384.false)
