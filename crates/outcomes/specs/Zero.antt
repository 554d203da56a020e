-- Written by tests/public. The promise of each public function of zero admits one outcome only.
use Rattle.std.specs.Prelude.{Bool, ℕ, ◌≡◌}
use Rattle.zero.specs.Zero.{bad_bits}
use Rattle.outcomes.specs.OneOutcome.{OneOutcome}

pub record Zero : Type 0 where
  -- crates/zero/src/lib.rt
  pub bad_bits_one : (s : ℕ) → OneOutcome (λ (r : Bool). r ≡ bad_bits s)
