-- Written by tests/public. The promise of each public function of assembly admits one outcome only.
use Rattle.std.specs.Prelude.{List, length, ℕ, ◌≡◌, ◌≤◌}
use Rattle.arrayvec.specs.ArrayVec.{ArrayVec}
use Rattle.assembly.specs.Printed.{printed_in}
use Rattle.outcomes.specs.OneOutcome.{OneOutcome}

pub record Assembly : Type 0 where
  -- crates/assembly/src/printing.rt
  pub print_one : (input : List ℕ) → OneOutcome (λ (r : ArrayVec ℕ). (r ≡ printed_in input) × (length r.items ≤ 36864))
