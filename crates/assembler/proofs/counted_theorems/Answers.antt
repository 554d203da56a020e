use Rattle.assembler.proofs.Counts.{count}
use Rattle.assembler.proofs.counted_theorems.Goals as goal

pub returns : goal.returns
returns c = record { count = count }
