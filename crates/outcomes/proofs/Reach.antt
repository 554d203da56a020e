-- Written by tests/public. Two outcomes that meet an equation are equal.
use Rattle.outcomes.specs.Reach.{Reach}
use Rattle.outcomes.proofs.ByHand.{reach_reach_one}

pub reach : Reach
reach = record {
  reach_one = reach_reach_one;
}
