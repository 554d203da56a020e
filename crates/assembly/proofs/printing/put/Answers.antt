use mathlib.Core.Path.{◌∙◌}
use Rattle.text.proofs.Outputs.{first_put}
use Rattle.assembly.proofs.Outputs.{too_long, as_assembled}
use Rattle.assembly.proofs.printing.put.Goals as goal

pub returns-then-input-gt262144-clause-is : goal.returns-then-input-gt262144-clause-is
returns-then-input-gt262144-clause-is c =
    first_put c.requires c.push_answer.ensures.is ∙ too_long c.args.input.now c.if-input-gt262144.true

pub returns-clause-is : goal.returns-clause-is
returns-clause-is c = c.outcome.ensures.is ∙ as_assembled c.args.input.now c.if-input-gt262144.false c.vex_assemble-number.ensures
