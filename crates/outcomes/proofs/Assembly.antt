-- Written by tests/public. Two outcomes that meet an equation are equal.
use mathlib.Core.Path.{◌∙◌, sym}
use Rattle.outcomes.specs.Assembly.{Assembly}

pub assembly : Assembly
assembly = record {
  print_one = λ _ _ _ p q. p.0 ∙ sym q.0;
}
