-- Written by tests/public. Two outcomes that meet an equation are equal.
use mathlib.Core.Path.{◌∙◌, sym}
use Rattle.outcomes.specs.Evaluation.{Evaluation}

pub evaluation : Evaluation
evaluation = record {
  labels_find_one = λ _ _ _ _ p q. p ∙ sym q;
  labels_value_one = λ _ _ _ _ p q. p ∙ sym q;
  hash_one = λ _ _ _ p q. p ∙ sym q;
  syllable_one = λ _ _ _ _ _ p q. p.0 ∙ sym q.0;
}
