-- Written by tests/public. The promise of each public function of refusals admits one outcome only.
use Rattle.std.specs.Prelude.{List, Option, length, ℕ, ◌≡◌}
use Rattle.word.specs.Bytes.{words}
use Rattle.isa.specs.Lowest.{lowest}
use Rattle.isa.specs.declared.Place.{Place}
use Rattle.isa.specs.declared.Table.{Table}
use Rattle.refusals.specs.Broken.{bad_bits_at, bad_cluster_at, bad_control_at, no_end_at, too_wide_at, two_writes_at}
use Rattle.outcomes.specs.OneOutcome.{OneOutcome}

pub record Refusals : Type 0 where
  -- crates/refusals/src/control.rt
  pub bad_control_one : (program : List ℕ) → OneOutcome (λ (r : Option Place). r ≡ lowest (bad_control_at (words program)) (length (words program)))
  -- crates/refusals/src/instructions.rt
  pub too_wide_one : (table : Table) (program : List ℕ)
      → OneOutcome (λ (r : Option Place).
      r ≡ lowest (too_wide_at table (words program)) (length (words program)))
  pub two_writes_one : (program : List ℕ) → OneOutcome (λ (r : Option Place). r ≡ lowest (two_writes_at (words program)) (length (words program)))
  -- crates/refusals/src/syllables.rt
  pub no_end_one : (program : List ℕ) → OneOutcome (λ (r : Option Place). r ≡ lowest (no_end_at (words program)) (length (words program)))
  pub bad_bits_one : (program : List ℕ) → OneOutcome (λ (r : Option Place). r ≡ lowest (bad_bits_at (words program)) (length (words program)))
  pub bad_cluster_one : (clusters : ℕ) (program : List ℕ)
      → OneOutcome (λ (r : Option Place).
      r ≡ lowest (bad_cluster_at clusters (words program)) (length (words program)))
