-- Written by tests/public. Two outcomes that meet an equation are equal.
use mathlib.Core.Path.{◌∙◌, sym}
use Rattle.outcomes.specs.Refusals.{Refusals}

pub refusals : Refusals
refusals = record {
  bad_control_one = λ _ _ _ p q. p ∙ sym q;
  too_wide_one = λ _ _ _ _ p q. p ∙ sym q;
  two_writes_one = λ _ _ _ p q. p ∙ sym q;
  no_end_one = λ _ _ _ p q. p ∙ sym q;
  bad_bits_one = λ _ _ _ p q. p ∙ sym q;
  bad_cluster_one = λ _ _ _ _ p q. p ∙ sym q;
}
