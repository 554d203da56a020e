use mathlib.Core.Path.{refl}
use Rattle.text.specs.Output.{Unread}
use Rattle.text.proofs.Outputs.{alone, first_put}
use Rattle.text.proofs.running.unread.Goals as goal

pub returns-clause-is : goal.returns-clause-is
returns-clause-is c = alone (Unread c.args.line) (first_put c.requires c.push_answer.ensures.is) refl
