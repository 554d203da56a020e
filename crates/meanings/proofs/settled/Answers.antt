-- The theorem, tied to the function that promises it.
use Rattle.meanings.proofs.OneTable.{settled}
use Rattle.meanings.proofs.settled.Goals as goal

pub returns : goal.returns
returns c = settled
