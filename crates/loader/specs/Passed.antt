-- What the crates above ask of a program that loads.
use Rattle.std.specs.Prelude.{List, ℕ, length}
use Rattle.word.specs.Lists.{NoneBelow}
use Rattle.isa.specs.declared.Table.{Table}
use Rattle.refusals.specs.Broken.{no_end_at, bad_bits_at, bad_cluster_at, too_wide_at, two_writes_at, bad_control_at}

-- what a program has passed under 3 to 8
pub record Passed (table : Table) (program : List ℕ) : Type 0 where
  pub no_end : NoneBelow (no_end_at program) (length program)
  pub bad_bits : NoneBelow (bad_bits_at program) (length program)
  pub bad_cluster : NoneBelow (bad_cluster_at table.clusters program) (length program)
  pub too_wide : NoneBelow (too_wide_at table program) (length program)
  pub two_writes : NoneBelow (two_writes_at program) (length program)
  pub bad_control : NoneBelow (bad_control_at program) (length program)
