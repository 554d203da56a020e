-- The link register beside the bytes of memory: together they are the abstract machine's memory, and setting the link is one more store.
-- "It sets the link register to the index of the instruction after it, at once": like a store, it is there before the next instruction.
use Rattle.std.specs.Prelude.{List, ℕ}
use Rattle.memory.specs.Memory.{store}
use Rattle.memory.specs.declared.Store.{Store}

pub record Memory : Type 0 where
  pub bytes : List ℕ
  pub link : ℕ

abbrev pub memory_of : List ℕ → ℕ → Memory
memory_of bytes link = record { bytes = bytes; link = link }

-- what an instruction stores: bytes, or the link
pub data Change : Type 0 where
  storing : Store → Change
  linking : ℕ → Change

abbrev pub change : Change → Memory → Memory
change (storing s) m = memory_of (store s m.bytes) m.link
change (linking i) m = memory_of m.bytes i
