use mathlib.Core.Path.{◌≡◌}
use Prim.Native.Nat.{◌<◌}
use lib.ListN.{drop}
use Rattle.values.specs.Values.{decimal_from}
use Rattle.values.proofs.number.Given as goal

abbrev pub invariant-loop-d : goal.invariant-loop-d
invariant-loop-d l = (l.v < 2147483648) × (decimal_from 0 l.w ≡ decimal_from l.v (drop l.d-index l.w))
