-- Written by tests/public. Two outcomes that meet an equation are equal.
use mathlib.Core.Path.{◌∙◌, sym}
use Rattle.outcomes.specs.Assembler.{Assembler}
use Rattle.outcomes.proofs.ByHand.{assembler_judge_one}

pub assembler : Assembler
assembler = record {
  assemble_one = λ _ _ _ _ _ p q. λ i. record {
    result = ((p ∙ sym q) i).result;
    program = ((p ∙ sym q) i).program;
    room = ((p ∙ sym q) i).room;
  };
  wrong_number_one = λ _ _ _ p q. p ∙ sym q;
  judge_one = assembler_judge_one;
  wrong_from_fault_one = λ _ _ _ p q. p ∙ sym q;
}
