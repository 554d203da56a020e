use Rattle.samples.proofs.Theorems.{load}
use Rattle.samples.proofs.load_theorems.Goals as goal

pub returns : goal.returns
returns c = load
