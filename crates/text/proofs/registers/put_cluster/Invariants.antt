use mathlib.Core.Path.{◌≡◌}
use mathlib.Core.List.{List, ◌++◌}
use Prim.Native.Nat.{ℕ, ◌+◌, ◌*◌, ◌≤◌, ◌<◌}
use lib.ListN.{length}
use Rattle.vliw.specs.Cell.{landed}
use Rattle.machine.specs.Image.{cell_in}
use Rattle.text.specs.Rows.{index_of, register_row, each}
use Rattle.text.proofs.registers.put_cluster.Given as goal

abbrev pub line : List ℕ → ℕ → ℕ → List ℕ
line image c r = register_row c r (landed (cell_in image (index_of c r)))

abbrev pub invariant-loop-r : goal.invariant-loop-r
invariant-loop-r l =
    (length l.initial.out.items + 1080 ≤ 4341) × (l.c < 4) × (length l.out.items ≤ length l.initial.out.items + 15 * l.r)
    × (l.out.items ≡ l.initial.out.items ++ each (line l.image l.c) l.r)
