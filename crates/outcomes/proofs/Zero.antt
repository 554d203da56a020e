-- Written by tests/public. Two outcomes that meet an equation are equal.
use mathlib.Core.Path.{◌∙◌, sym}
use Rattle.outcomes.specs.Zero.{Zero}

pub zero : Zero
zero = record {
  bad_bits_one = λ _ _ _ p q. p ∙ sym q;
}
