-- Written by tests/public. The promise of each public function of lines admits one outcome only.
use Rattle.std.specs.Prelude.{List, OnErr, Result, ℕ, ⊤, ◌≡◌}
use Rattle.lines.specs.Items.{reading_in, reading_of}
use Rattle.lines.specs.Lines.{first_line, from_first, newline, pieces}
use Rattle.lines.specs.declared.reading.BadLine.{BadLine}
use Rattle.lines.specs.declared.reading.Text.{Text}
use Rattle.outcomes.specs.OneOutcome.{OneOutcome}

pub record Lines : Type 0 where
  -- crates/lines/src/reading.rt
  pub read_into_one : (text : List ℕ) (into : Text)
      → OneOutcome (λ (o : record { result : Result ⊤ BadLine; into : Text }).
      (reading_in o.result o.into ≡ reading_of (from_first (first_line 2 (pieces newline text)))) × (OnErr o.result (o.into ≡ into)))
  pub read_one : (text : List ℕ) → OneOutcome (λ (r : Result Text BadLine). r ≡ reading_of (from_first (first_line 2 (pieces newline text))))
