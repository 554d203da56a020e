-- Written by tests/public. Two outcomes that meet an equation are equal.
use mathlib.Core.Path.{◌∙◌, sym}
use Rattle.outcomes.specs.Expressions.{Expressions}

pub expressions : Expressions
expressions = record {
  is_number_one = λ _ _ _ p q. p ∙ sym q;
  is_label_one = λ _ _ _ p q. p ∙ sym q;
}
