-- Written by tests/public. The promise of each public function of source admits one outcome only.
use Rattle.std.specs.Prelude.{Bool, List, Option, drop, false, ℕ, ◌+◌, ◌≡◌, ◌≤◌}
use Rattle.tokens.specs.Tokens.{same}
use Rattle.operations.specs.declared.Operation.{Operation}
use Rattle.source.specs.Each.{GivesLine}
use Rattle.source.specs.Grammar.{lines_of}
use Rattle.source.specs.Labels.{gives as gives_name}
use Rattle.source.specs.Seek.{Cut, heard_in, operates, operation_of, seek, walk_of}
use Rattle.source.specs.Walk.{refused, step as step_by}
use Rattle.source.specs.declared.each_line.Lines.{Lines}
use Rattle.source.specs.declared.reading.Line.{Line}
use Rattle.source.specs.declared.reading.ReadLine.{ReadLine}
use Rattle.source.specs.declared.seeking.Given.{Given}
use Rattle.source.specs.declared.walking.Walk.{Walk}
use Rattle.outcomes.specs.OneOutcome.{OneOutcome, OneOutcomeSeen}
use Rattle.outcomes.specs.Steps.{source_lines_next}

pub record Source : Type 0 where
  -- crates/source/src/each_line.rt
  pub lines_next_one : (self : Lines)
      → OneOutcomeSeen source_lines_next (λ (o : record { result : Option (ℕ × ReadLine); self : Lines }).
      GivesLine self o.result o.self)
  -- crates/source/src/reading.rt
  pub line_operation_one : (self : Line) → OneOutcome (λ (r : Option Operation). r ≡ operation_of self.says)
  pub read_line_gives_one : (self : ReadLine) (name : List ℕ) → OneOutcome (λ (r : Bool). r ≡ gives_name name (heard_in self.bytes.now self.line))
  pub line_length_one : (s : List ℕ) → OneOutcome (λ (r : ℕ). Cut s r)
  pub is_same_one : (a b : List ℕ) → OneOutcome (λ (r : Bool). r ≡ same a b)
  -- crates/source/src/seeking.rt
  pub search_one : (text : List ℕ) (from : ℕ) (w : Walk) (name : List ℕ)
      → OneOutcome (λ (r : Option Given).
      r ≡ seek (walk_of w) from (lines_of (drop from text)) name)
  -- crates/source/src/walking.rt
  pub is_refused_one : (w : Walk) (l : Line) → OneOutcome (λ (r : Bool). (line : List ℕ) → r ≡ refused (walk_of w) (heard_in line l))
  pub step_one : (w : Walk) (l : Line)
      → OneOutcome (λ (r : Walk).
      ((line : List ℕ) → walk_of r ≡ step_by (walk_of w) (heard_in line l)) × (w.count ≤ r.count) × (r.count ≤ w.count + 4) × (operates l ≡ false → r.count
      ≡ w.count))
