use native.Mathlib.Omega.{arith}
use Rattle.lines.proofs.Digits.{digits_fit}
use Rattle.lines.proofs.items.number_of.Goals as goal

pub overflow_mul-v : goal.overflow_mul-v
overflow_mul-v c = omega (arith, digits_fit c.loop-b.v c.loop-b.b-index 7 c.loop-b.invariant.3 (omega arith))

pub overflow_add-v : goal.overflow_add-v
overflow_add-v c =
    omega (arith, c.in_ok-v.ensures.below, digits_fit c.loop-b.v c.loop-b.b-index 7 c.loop-b.invariant.3 (omega arith))
