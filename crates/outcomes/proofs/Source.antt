-- Written by tests/public. Two outcomes that meet an equation are equal.
use mathlib.Core.Path.{◌∙◌, sym}
use Rattle.outcomes.specs.Source.{Source}
use Rattle.outcomes.proofs.ByHand.{source_lines_next_one, source_line_length_one, source_is_refused_one, source_step_one}

pub source : Source
source = record {
  lines_next_one = source_lines_next_one;
  line_operation_one = λ _ _ _ p q. p ∙ sym q;
  read_line_gives_one = λ _ _ _ _ p q. p ∙ sym q;
  line_length_one = source_line_length_one;
  is_same_one = λ _ _ _ _ p q. p ∙ sym q;
  search_one = λ _ _ _ _ _ _ p q. p ∙ sym q;
  is_refused_one = source_is_refused_one;
  step_one = source_step_one;
}
