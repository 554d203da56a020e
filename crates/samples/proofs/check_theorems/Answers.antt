use Rattle.samples.proofs.Theorems.{check}
use Rattle.samples.proofs.check_theorems.Goals as goal

pub returns : goal.returns
returns c = check
