use Rattle.expressions.proofs.Complete.{unique}
use Rattle.expressions.proofs.unique_theorems.Goals as goal

pub returns : goal.returns
returns c = record { part = λ d ts e f r s p q. unique d ts r s e f p q }
