-- Written by tests/public. The promise of each public function of tables admits one outcome only.
use Rattle.std.specs.Prelude.{Bool, List, ℕ, ◌≡◌}
use Rattle.isa.specs.declared.Table.{Table}
use Rattle.tables.specs.Table.{bad_table, table_of}
use Rattle.outcomes.specs.OneOutcome.{OneOutcome}

pub record Tables : Type 0 where
  -- crates/tables/src/lib.rt
  pub breaks_one : (bytes : List ℕ) → OneOutcome (λ (r : Bool). r ≡ bad_table bytes)
  pub read_one : (bytes : List ℕ) → OneOutcome (λ (r : Table). r ≡ table_of bytes)
