-- Written by tests/public. Two outcomes that meet an equation are equal.
use mathlib.Core.Path.{◌∙◌, sym}
use Rattle.outcomes.specs.Ops.{Ops}

pub ops : Ops
ops = record {
  value_one = λ _ _ _ _ _ _ p q. p ∙ sym q;
  address_one = λ _ _ _ _ p q. p ∙ sym q;
  loaded_one = λ _ _ _ _ p q. p ∙ sym q;
  stored_one = λ _ _ _ _ p q. p ∙ sym q;
  carry_one = λ _ _ _ _ _ p q. p ∙ sym q;
}
