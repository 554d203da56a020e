-- Written by tests/public. Two outcomes that meet an equation are equal.
use mathlib.Core.Path.{◌∙◌, sym}
use Rattle.outcomes.specs.Sandbox.{Sandbox}
use Rattle.outcomes.proofs.ByHand.{sandbox_vex_check_one}

pub sandbox : Sandbox
sandbox = record {
  vex_assemble_one = λ _ _ _ _ _ p q. λ i. record {
    result = ((p ∙ sym q) i).result;
    program = ((p ∙ sym q) i).program;
    room = ((p ∙ sym q) i).room;
  };
  vex_load_one = λ _ _ _ _ _ p q. λ i. record {
    result = ((p ∙ sym q) i).result;
    room = ((p ∙ sym q) i).room;
  };
  vex_check_one = sandbox_vex_check_one;
  vex_run_one = λ _ _ _ _ _ _ _ _ _ p q. λ i. record {
    result = ((p ∙ sym q) i).result;
    state = ((p ∙ sym q) i).state;
    memory = ((p ∙ sym q) i).memory;
    room = ((p ∙ sym q) i).room;
  };
}
