use Rattle.operations.proofs.Complete.{unique}
use Rattle.operations.proofs.unique_theorems.Goals as goal

pub returns : goal.returns
returns c = record { part = unique }
