use Rattle.assembler.proofs.Verdicts.{judges, one}
use Rattle.assembler.proofs.lowest_theorems.Goals as goal

pub returns : goal.returns
returns c = record { judges = judges; one = one }
