-- Written by tests/public. Two outcomes that meet an equation are equal.
use mathlib.Core.Path.{◌∙◌, sym}
use Rattle.outcomes.specs.Memory.{Memory}

pub memory : Memory
memory = record {
  size_one = λ _ _ _ p q. p.0 ∙ sym q.0;
  access_at_one = λ _ _ _ _ _ p q. p ∙ sym q;
  load_one = λ _ _ _ _ _ p q. p ∙ sym q;
  store_all_one = λ _ _ _ _ p q. p ∙ sym q;
  shared_one = λ _ _ _ p q. p ∙ sym q;
}
