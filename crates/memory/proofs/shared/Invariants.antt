-- The invariant: the stores before the rest share a byte with none.
use Rattle.std.proofs.Common.{◌≡◌, length}
use Rattle.memory.specs.Memory.{any_share}
use Rattle.memory.proofs.shared.Given as goal

abbrev pub invariant-loop-first : goal.invariant-loop-first
invariant-loop-first l = any_share l.rest ≡ any_share l.fn.stores

abbrev pub decreases-loop-first : goal.decreases-loop-first
decreases-loop-first l = length l.rest
