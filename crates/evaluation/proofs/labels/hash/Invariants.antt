use mathlib.Core.Path.{◌≡◌}
use Prim.Native.Nat.{◌^◌, ◌<◌}
use lib.ListN.{drop}
use Rattle.word.specs.Lists.{fold}
use Rattle.evaluation.specs.Known.{mixed, hash_of}
use Rattle.evaluation.proofs.labels.hash.Given as goal

abbrev pub invariant-loop-b : goal.invariant-loop-b
invariant-loop-b l = (l.h < 2 ^ 32) × (hash_of l.name ≡ fold mixed l.h (drop l.b-index l.name))
