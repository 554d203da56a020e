-- Written by tests/public. Two outcomes that meet an equation are equal.
use mathlib.Core.Path.{◌∙◌, sym}
use Rattle.outcomes.specs.Text.{Text}
use Rattle.outcomes.proofs.ByHand.{text_push_field_one, text_push_fields_one, text_push_answer_one}

pub text : Text
text = record {
  show_one = λ _ _ _ p q. p.0 ∙ sym q.0;
  put_field_one = λ _ _ _ _ _ _ _ p q. p ∙ sym q;
  put_fields_one = λ _ _ _ _ _ _ _ _ p q. p ∙ sym q;
  put_answer_one = λ _ _ _ _ p q. p ∙ sym q;
  push_field_one = text_push_field_one;
  push_fields_one = text_push_fields_one;
  push_answer_one = text_push_answer_one;
}
