-- The invariant: the stores from the index on are left.
use Rattle.std.proofs.Common.{◌≡◌, length, drop}
use Rattle.vliw.specs.Machine.{stores as stored}
use Rattle.memory.specs.Memory.{store}
use Rattle.memory.proofs.store_all.Given as goal

abbrev pub invariant-loop-s : goal.invariant-loop-s
invariant-loop-s l =
    (length l.memory ≡ length l.initial.memory)
    × (stored store (drop l.s-index l.stores) l.memory ≡ stored store l.stores l.initial.memory)
