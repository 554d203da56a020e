-- How many values a field has.
use Prim.Native.Nat.{◌<◌}
use native.Mathlib.Omega.{arith}
use lib.Pow.{pow_pos}
use Rattle.std.specs.Prelude.{Some, None}
use Rattle.operations.specs.Parsed.{Asks, breadth, field_of}

pub breadth_some : (a : Asks) → 0 < breadth a
breadth_some None = omega arith
breadth_some (Some a) = pow_pos (field_of a.0).width
