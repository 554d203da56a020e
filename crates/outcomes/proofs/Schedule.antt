-- Written by tests/public. Two outcomes that meet an equation are equal.
use mathlib.Core.Path.{◌∙◌, sym}
use Rattle.outcomes.specs.Schedule.{Schedule}
use Rattle.outcomes.proofs.ByHand.{schedule_check_one}

pub schedule : Schedule
schedule = record {
  check_one = schedule_check_one;
  of_verdict_one = λ _ _ _ p q. p ∙ sym q;
}
