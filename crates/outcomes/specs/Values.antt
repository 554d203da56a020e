-- Written by tests/public. The promise of each public function of values admits one outcome only.
use Rattle.std.specs.Prelude.{List, Result, ℕ, ◌≡◌}
use Rattle.values.specs.Values.{add, both, decimal, mul, sub}
use Rattle.values.specs.declared.Fault.{Fault}
use Rattle.outcomes.specs.OneOutcome.{OneOutcome}

pub record Values : Type 0 where
  -- crates/values/src/lib.rt
  pub plus_one : (a b : Result ℕ Fault) → OneOutcome (λ (r : Result ℕ Fault). r ≡ both add a b)
  pub minus_one : (a b : Result ℕ Fault) → OneOutcome (λ (r : Result ℕ Fault). r ≡ both sub a b)
  pub times_one : (a b : Result ℕ Fault) → OneOutcome (λ (r : Result ℕ Fault). r ≡ both mul a b)
  pub number_one : (w : List ℕ) → OneOutcome (λ (r : Result ℕ Fault). r ≡ decimal w)
