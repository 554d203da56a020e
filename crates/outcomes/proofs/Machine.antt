-- Written by tests/public. Two outcomes that meet an equation are equal.
use mathlib.Core.Path.{◌∙◌, sym}
use Rattle.outcomes.specs.Machine.{Machine}
use Rattle.outcomes.proofs.ByHand.{machine_state_still_one, machine_state_register_one, machine_state_put_one, machine_read_one}

pub machine : Machine
machine = record {
  state_still_one = machine_state_still_one;
  state_register_one = machine_state_register_one;
  state_put_one = machine_state_put_one;
  offset_one = λ _ _ _ p q. p ∙ sym q;
  read_one = machine_read_one;
  write_one = λ _ _ _ _ p q. p ∙ sym q;
  bad_registers_one = λ _ _ _ p q. p ∙ sym q;
}
