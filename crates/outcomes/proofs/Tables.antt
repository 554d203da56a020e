-- Written by tests/public. Two outcomes that meet an equation are equal.
use mathlib.Core.Path.{◌∙◌, sym}
use Rattle.outcomes.specs.Tables.{Tables}

pub tables : Tables
tables = record {
  breaks_one = λ _ _ _ p q. p ∙ sym q;
  read_one = λ _ _ _ p q. p ∙ sym q;
}
