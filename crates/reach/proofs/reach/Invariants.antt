use Prim.Native.Nat.{◌-◌, ◌≤◌}
use Rattle.word.specs.Bytes.{words}
use Rattle.reach.specs.Nexts.{nexts_at}
use Rattle.reach.specs.Near.{Reaches}
use Rattle.reach.proofs.Reaching.{Widening}
use Rattle.reach.proofs.reach.Given as goal

abbrev pub invariant-places : goal.invariant-places
invariant-places l = Widening (nexts_at (words l.program)) l.fn.p.0 l.k l.i l.near.items

abbrev pub decreases-places : goal.decreases-places
decreases-places l = 256 - l.i

abbrev pub invariant-levels : goal.invariant-levels
invariant-levels l =
    (1 ≤ l.k) × (l.k ≤ l.most) × Reaches (nexts_at (words l.program)) l.fn.p.0 l.k l.near.items

abbrev pub decreases-levels : goal.decreases-levels
decreases-levels l = l.most - l.k
