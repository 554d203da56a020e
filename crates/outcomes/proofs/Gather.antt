-- Written by tests/public. Two outcomes that meet an equation are equal.
use mathlib.Core.Path.{◌∙◌, sym}
use Rattle.outcomes.specs.Gather.{Gather}
use Rattle.outcomes.proofs.ByHand.{gather_scratch_new_one, gather_scratch_note_one, gather_scratch_note_store_one}

pub gather : Gather
gather = record {
  scratch_new_one = gather_scratch_new_one;
  scratch_results_one = λ _ _ _ p q. p ∙ sym q;
  scratch_stores_one = λ _ _ _ p q. p ∙ sym q;
  scratch_note_one = gather_scratch_note_one;
  scratch_note_store_one = gather_scratch_note_store_one;
}
