use Rattle.samples.proofs.Theorems.{run}
use Rattle.samples.proofs.run_theorems.Goals as goal

pub returns : goal.returns
returns c = run
