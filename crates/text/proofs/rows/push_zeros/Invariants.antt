use mathlib.Core.Path.{◌≡◌}
use mathlib.Core.List.{◌++◌}
use Prim.Native.Nat.{◌+◌, ◌≤◌}
use lib.ListN.{length, replicate}
use Rattle.text.proofs.rows.push_zeros.Given as goal

abbrev pub invariant-loop : goal.invariant-loop
invariant-loop g l =
    (length l.initial.out.items + l.count ≤ g.row.N) × (length l.out.items ≡ length l.initial.out.items + l.counter)
    × (l.out.items ≡ l.initial.out.items ++ replicate l.counter 0)
