-- Written by tests/public. Two outcomes that meet an equation are equal.
use mathlib.Core.Path.{◌∙◌, sym}
use Rattle.outcomes.specs.Lines.{Lines}
use Rattle.outcomes.proofs.ByHand.{lines_read_into_one}

pub lines : Lines
lines = record {
  read_into_one = lines_read_into_one;
  read_one = λ _ _ _ p q. p ∙ sym q;
}
