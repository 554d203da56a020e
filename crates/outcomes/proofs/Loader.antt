-- Written by tests/public. Two outcomes that meet an equation are equal.
use mathlib.Core.Path.{◌∙◌, sym}
use Rattle.outcomes.specs.Loader.{Loader}

pub loader : Loader
loader = record {
  bad_program_length_one = λ _ _ _ p q. p ∙ sym q;
  load_one = λ _ _ _ _ _ p q. p ∙ sym q;
  load_with_one = λ _ _ _ _ _ p q. p ∙ sym q;
  write_one = λ _ _ _ _ p q. p ∙ sym q;
  answer_from_refusal_one = λ _ _ _ p q. p ∙ sym q;
  answer_from_result_refusal_one = λ _ _ _ p q. p ∙ sym q;
}
