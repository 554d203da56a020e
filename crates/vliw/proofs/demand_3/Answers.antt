use mathlib.Core.List.{List}
use Prim.Native.Nat.{ℕ}
use Rattle.vliw.proofs.Demand3.{demand_3}
use Rattle.vliw.proofs.demand_3.Goals as goal

pub returns : goal.returns
returns c = demand_3 (List ℕ) (List ℕ)
