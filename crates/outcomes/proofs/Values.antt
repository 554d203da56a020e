-- Written by tests/public. Two outcomes that meet an equation are equal.
use mathlib.Core.Path.{◌∙◌, sym}
use Rattle.outcomes.specs.Values.{Values}

pub values : Values
values = record {
  plus_one = λ _ _ _ _ p q. p ∙ sym q;
  minus_one = λ _ _ _ _ p q. p ∙ sym q;
  times_one = λ _ _ _ _ p q. p ∙ sym q;
  number_one = λ _ _ _ p q. p ∙ sym q;
}
