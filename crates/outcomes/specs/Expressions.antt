-- Written by tests/public. The promise of each public function of expressions admits one outcome only.
use Rattle.std.specs.Prelude.{Bool, List, ℕ, ◌≡◌}
use Rattle.expressions.specs.Grammar.{is_label, is_number}
use Rattle.outcomes.specs.OneOutcome.{OneOutcome}

pub record Expressions : Type 0 where
  -- crates/expressions/src/lib.rt
  pub is_number_one : (w : List ℕ) → OneOutcome (λ (r : Bool). r ≡ is_number w)
  pub is_label_one : (w : List ℕ) → OneOutcome (λ (r : Bool). r ≡ is_label w)
