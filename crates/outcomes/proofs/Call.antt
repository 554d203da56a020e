-- Written by tests/public. Two outcomes that meet an equation are equal.
use mathlib.Core.Path.{◌∙◌, sym}
use Rattle.outcomes.specs.Call.{Call}

pub call : Call
call = record {
  unrun_from_refusal_one = λ _ _ _ p q. p ∙ sym q;
  answer_from_ended_one = λ _ _ _ p q. p ∙ sym q;
  answer_from_unrun_one = λ _ _ _ p q. p ∙ sym q;
}
