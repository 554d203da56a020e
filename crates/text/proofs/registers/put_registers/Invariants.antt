use mathlib.Core.Path.{◌≡◌}
use mathlib.Core.List.{◌++◌}
use Prim.Native.Nat.{◌+◌, ◌*◌, ◌≤◌}
use lib.ListN.{length}
use Rattle.text.specs.Rows.{each, cluster_rows}
use Rattle.text.proofs.registers.put_registers.Given as goal

abbrev pub invariant-loop-c : goal.invariant-loop-c
invariant-loop-c l =
    (length l.initial.out.items + 4320 ≤ 4341) × (length l.out.items ≤ length l.initial.out.items + 1080 * l.c)
    × (l.out.items ≡ l.initial.out.items ++ each (cluster_rows l.image) l.c)
