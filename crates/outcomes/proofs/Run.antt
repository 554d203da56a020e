-- Written by tests/public. Two outcomes that meet an equation are equal.
use Rattle.outcomes.specs.Run.{Run}
use Rattle.outcomes.proofs.ByHand.{run_run_one}

pub run : Run
run = record {
  run_one = run_run_one;
}
