-- Written by tests/public. Two outcomes that meet an equation are equal.
use mathlib.Core.Path.{◌∙◌, sym}
use Rattle.outcomes.specs.Word.{Word}

pub word : Word
word = record {
  byte_at_one = λ _ _ _ _ p q. p.0 ∙ sym q.0;
  half_at_one = λ _ _ _ _ p q. p.0 ∙ sym q.0;
  word_at_one = λ _ _ _ _ p q. p ∙ sym q;
  put_byte_one = λ _ _ _ _ _ p q. p ∙ sym q;
  put_half_one = λ _ _ _ _ _ p q. p ∙ sym q;
  put_word_one = λ _ _ _ _ _ p q. p ∙ sym q;
  low_one = λ _ _ _ _ p q. p ∙ sym q;
  widen_one = λ _ _ _ _ p q. p ∙ sym q;
}
