-- The loops' invariants: what is up to k nexts away is there, and the nexts of the places k away that are below the index.
use Prim.Native.Nat.{◌<◌}
use native.Mathlib.Numerals.{add-one}
use native.Mathlib.Omega.{arith}
use lib.ListN.{length}
use Rattle.word.specs.Bytes.{words}
use Rattle.reach.specs.Near.{steps_at}
use Rattle.reach.proofs.Few.{few_in}
use Rattle.reach.proofs.Reaching.{reach_start, passed_by, widened, ended}
use Rattle.reach.proofs.reach.Goals as goal
use Rattle.reach.proofs.reach.Goals.{then-n-k, else-n-k}

pub expand-requires-then-n-k-clause-at_value : goal.expand-requires-then-n-k-clause-at_value
expand-requires-then-n-k-clause-at_value c =
    let within : c.places.i < length c.places.near.items = omega (arith, c.len.ensures.value) in
    rw c.deref.ensures.0
    (reach_start c.requires.laid c.args.p.0 c.requires.p_value (steps_at c.places.near.items c.places.i) _ (c.places.invariant.sound c.places.i within).1)

pub expand-requires-then-n-k-clause-count_bound : goal.expand-requires-then-n-k-clause-count_bound
expand-requires-then-n-k-clause-count_bound c =
    few_in (words c.args.program.now) c.args.p.0 _ (omega arith) c.places.invariant.ordered c.places.invariant.sound

pub places-preserved : goal.places-preserved
places-preserved c =
    let within : c.places.i < length c.places.near.items = omega (arith, c.len.ensures.value) in
    rw add-one
    (elim c.if-n-k.branch [
      | then-n-k w ↦
          rw w.near-is
          (widened _ _ _ _ c.places.invariant within (rw c.deref.ensures.0 at w.if-n-k.true) (rw (c.deref.ensures.0, add-one) at w.expand-then-n-k.ensures))
      | else-n-k w ↦ rw w.near-is (passed_by _ _ _ c.places.invariant (rw c.deref.ensures.0 at w.if-n-k.false))
    ])

pub levels-preserved : goal.levels-preserved
levels-preserved c =
    (omega arith, omega arith, rw add-one (ended _ _ _ c.levels.invariant.0 c.places.invariant (omega (arith, c.len.ensures.value))))
