use mathlib.Core.Path.{◌≡◌}
use Prim.Native.Nat.{◌≤◌}
use lib.ListN.{length}
use Rattle.std.specs.List.{insert}
use Rattle.reach.proofs.put_in.Given as goal

abbrev pub invariant-loop-i : goal.invariant-loop-i
invariant-loop-i l = record {
  inside : l.i ≤ l.i-end;
  size : length l.near.items ≡ length l.fn.near.items;
  end : l.i-end ≡ length l.fn.near.items;
  whole : insert l.near.items l.i l.carried ≡ insert l.fn.near.items l.fn.at l.fn.x;
}
