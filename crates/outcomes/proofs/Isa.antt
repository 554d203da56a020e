-- Written by tests/public. Two outcomes that meet an equation are equal.
use mathlib.Core.Path.{◌∙◌, sym}
use Rattle.outcomes.specs.Isa.{Isa}
use Rattle.outcomes.proofs.ByHand.{isa_nexts_one, isa_cuts_next_one, isa_decode_still_one, isa_following_one, isa_walk_next_one}

pub isa : Isa
isa = record {
  control_still_one = λ _ _ _ p q. p ∙ sym q;
  goto_one = λ _ _ _ p q. p ∙ sym q;
  fork_one = λ _ _ _ p q. p ∙ sym q;
  way_one = λ _ _ _ p q. p ∙ sym q;
  controls_one = λ _ _ _ p q. p ∙ sym q;
  is_control_one = λ _ _ _ p q. p ∙ sym q;
  target_one = λ _ _ _ p q. p ∙ sym q;
  solitary_one = λ _ _ _ p q. p ∙ sym q;
  leaves_one = λ _ _ _ p q. p ∙ sym q;
  reads_every_one = λ _ _ _ p q. p ∙ sym q;
  turn_one = λ _ _ _ _ _ p q. p ∙ sym q;
  nexts_one = isa_nexts_one;
  cuts_next_one = isa_cuts_next_one;
  immediate_one = λ _ _ _ p q. p ∙ sym q;
  offset_one = λ _ _ _ p q. p ∙ sym q;
  compute_one = λ _ _ _ _ p q. p ∙ sym q;
  access_one = λ _ _ _ _ p q. p ∙ sym q;
  copy_one = λ _ _ _ _ p q. p ∙ sym q;
  decode_still_one = isa_decode_still_one;
  jump_one = λ _ _ _ _ p q. p ∙ sym q;
  decode_one = λ _ _ _ _ p q. p ∙ sym q;
  destinations_one = λ _ _ _ _ p q. p ∙ sym q;
  program_syllable_one = λ _ _ _ _ p q. p ∙ sym q;
  following_one = isa_following_one;
  is_start_one = λ _ _ _ _ p q. p ∙ sym q;
  stretch_syllable_one = λ _ _ _ _ p q. p ∙ sym q;
  before_all_one = λ _ _ p q. p ∙ sym q;
  opened_one = λ _ _ _ _ p q. p ∙ sym q;
  next_spot_one = λ _ _ _ _ p q. p ∙ sym q;
  opened_by_one = λ _ _ _ p q. p ∙ sym q;
  cluster_one = λ _ _ _ p q. p ∙ sym q;
  operation_one = λ _ _ _ p q. p ∙ sym q;
  bits_one = λ _ _ _ _ _ p q. p ∙ sym q;
  holds_one = λ _ _ _ _ _ _ p q. p ∙ sym q;
  ends_one = λ _ _ _ p q. p ∙ sym q;
  opens_one = λ _ _ _ p q. p ∙ sym q;
  opcode_one = λ _ _ _ p q. p ∙ sym q;
  source_one = λ _ _ _ p q. p ∙ sym q;
  format_one = λ _ _ _ p q. p ∙ sym q;
  within_one = λ _ _ _ _ _ p q. p ∙ sym q;
  is_alu_one = λ _ _ _ p q. p ∙ sym q;
  is_mul_one = λ _ _ _ p q. p ∙ sym q;
  is_mem_one = λ _ _ _ p q. p ∙ sym q;
  is_copy_one = λ _ _ _ p q. p ∙ sym q;
  delay_one = λ _ _ _ _ _ p q. p ∙ sym q;
  either_one = λ _ _ _ _ p q. p ∙ sym q;
  both_one = λ _ _ _ _ p q. p ∙ sym q;
  walk_next_one = isa_walk_next_one;
}
