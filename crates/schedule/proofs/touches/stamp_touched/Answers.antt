-- The loop's invariant: where the syllables that are left stamp what they name, the stamps are as all of them leave them.
use mathlib.Core.Path.{refl, ◌∙◌}
use native.Mathlib.Numerals.{add-one}
use Rattle.isa.specs.Walk.{spots_left}
use Rattle.schedule.proofs.Laid.{few_all, few_here, few_left, names_here}
use Rattle.schedule.proofs.Stamps.{stamped_on}
use Rattle.schedule.proofs.touches.stamp_touched.Goals as goal

pub loop-x-init : goal.loop-x-init
loop-x-init c =
    rw (c.into_iter-x-iterator.ensures.into_iter_gives, c.spots-x-items.ensures)
    (few_all c.requires.decodable, c.told-stamps, λ r. refl)

pub operation-requires : goal.operation-requires
operation-requires c = few_here c.loop-x.invariant.0 c.in-Some.ensures.steps

pub stamp-requires : goal.stamp-requires
stamp-requires c = names_here c.loop-x.invariant.0 c.in-Some.ensures.steps c.operation.ensures

pub loop-x-preserved : goal.loop-x-preserved
loop-x-preserved c = (
  few_left c.loop-x.invariant.0 c.in-Some.ensures.steps,
  c.stamp.ensures.size,
  λ r. stamped_on c.in-Some.x (spots_left c.next.new.self) c.operation.ensures c.stamp.ensures r ∙ (rw c.in-Some.ensures.steps at c.loop-x.invariant.2) r,
)

pub returns : goal.returns
returns c = record { size = c.loop-x.invariant.1; each = rw (c.in-None.ensures.steps.0, add-one) at c.loop-x.invariant.2 }
