-- Written by tests/public. The promise of each public function of ops admits one outcome only.
use Rattle.std.specs.Prelude.{ℕ, ◌≡◌}
use Rattle.ops.specs.Value.{address, carry, loaded, stored, value}
use Rattle.outcomes.specs.OneOutcome.{OneOutcome}

pub record Ops : Type 0 where
  -- crates/ops/src/lib.rt
  pub value_one : (opcode s1 s2 b : ℕ) → OneOutcome (λ (r : ℕ). r ≡ value opcode s1 s2 b)
  -- crates/ops/src/memory.rt
  pub address_one : (base offset : ℕ) → OneOutcome (λ (r : ℕ). r ≡ address base offset)
  pub loaded_one : (opcode v : ℕ) → OneOutcome (λ (r : ℕ). r ≡ loaded opcode v)
  pub stored_one : (opcode v : ℕ) → OneOutcome (λ (r : ℕ). r ≡ stored opcode v)
  -- crates/ops/src/sum.rt
  pub carry_one : (s1 s2 b : ℕ) → OneOutcome (λ (r : ℕ). r ≡ carry s1 s2 b)
