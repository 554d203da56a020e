-- Written by tests/public. Two outcomes that meet an equation are equal.
use mathlib.Core.Path.{◌∙◌, sym}
use Rattle.outcomes.specs.Ticks.{Ticks}
use Rattle.outcomes.proofs.ByHand.{ticks_registers_free_from_one, ticks_registers_leave_one}

pub ticks : Ticks
ticks = record {
  registers_made_one = λ _ _ _ _ p q. p ∙ sym q;
  registers_late_one = λ _ _ _ _ _ p q. p ∙ sym q;
  registers_any_late_one = λ _ _ _ _ _ p q. p ∙ sym q;
  registers_free_from_one = ticks_registers_free_from_one;
  registers_leave_one = ticks_registers_leave_one;
}
