-- What the crates above rely on, of a table that breaks no limit.
use Rattle.std.specs.Prelude.{ℕ, ◌≤◌, get_or}
use Rattle.isa.specs.declared.Table.{Table}

abbrev pub Between : ℕ → ℕ → ℕ → Type 0
Between least most x = (least ≤ x) × (x ≤ most)

pub record Bounds (t : Table) : Type 0 where
  pub clusters : Between 1 4 t.clusters
  pub alu : Between 1 8 t.delays.alu
  pub cmpb : Between 1 8 t.delays.cmpb
  pub mul : Between 1 8 t.delays.mul
  pub load : Between 1 8 t.delays.load
  pub copy : Between 1 8 t.delays.copy
  pub width : (k : ℕ) → get_or t.width k 0 ≤ 8
