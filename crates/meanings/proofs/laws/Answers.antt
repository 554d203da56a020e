-- The theorem, tied to the function that promises it.
use Rattle.meanings.proofs.Rows.{laws}
use Rattle.meanings.proofs.laws.Goals as goal

pub returns : goal.returns
returns c = laws
