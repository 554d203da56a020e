-- Only the last instruction's syllables are looked at.
use mathlib.Core.Path.{sym, ◌∙◌}
use borrow.Author.Tests.{eqb-false}
use Rattle.word.specs.Bytes.{words}
use Rattle.word.proofs.Choice.{is_false}
use Rattle.refusals.proofs.Last.{last_only}
use Rattle.refusals.proofs.control.runs_out.Goals as goal

pub returns-else-eq : goal.returns-else-eq
returns-else-eq c =
    c.if-eq.false
    ∙ rw (is_false _ (λ e. eqb-false _ _ (sym c.eq.ensures ∙ c.if-eq.false) (last_only (words c.args.program.now) c.args.last.0 c.args.at.0 c.requires e)))
