use borrow.Author.Tests.{eq-eqb, ne_eqb}
use Rattle.text.proofs.Outputs.{first_put}
use Rattle.assembly.specs.Printed.{printed_by}
use Rattle.assembly.proofs.printing.outcome.Goals as goal

pub returns-then-number-eq0-clause-is : goal.returns-then-number-eq0-clause-is
unfolding printed_by
returns-then-number-eq0-clause-is c =
    rw (eq-eqb c.args.number 0 c.if-number-eq0.true, ← c.word_at-count.ensures) c.syllables.ensures.is

pub returns-clause-is : goal.returns-clause-is
unfolding printed_by
returns-clause-is c =
    rw (ne_eqb c.args.number 0 c.if-number-eq0.false, ← c.word_at-count.ensures, ← c.word_at.ensures) (first_put c.requires c.push_answer.ensures.is)
