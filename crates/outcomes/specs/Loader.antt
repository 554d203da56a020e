-- Written by tests/public. The promise of each public function of loader admits one outcome only.
use Rattle.std.specs.Prelude.{Bool, List, Result, ℕ, ⊤, ◌≡◌}
use Rattle.refusals.specs.Broken.{bad_program_length}
use Rattle.loader.specs.Answer.{load_answer, refusal_answer, room_with}
use Rattle.loader.specs.Load.{loaded_of, loaded_with}
use Rattle.loader.specs.declared.Answer.{Answer}
use Rattle.loader.specs.declared.Refusal.{Refusal}
use Rattle.outcomes.specs.OneOutcome.{OneOutcome}

pub record Loader : Type 0 where
  -- crates/loader/src/numbers.rt
  pub bad_program_length_one : (program : List ℕ) → OneOutcome (λ (r : Bool). r ≡ bad_program_length program)
  pub load_one : (table program room : List ℕ) → OneOutcome (λ (r : Result ⊤ Refusal). r ≡ loaded_of table program room)
  pub load_with_one : (sizes : Result ⊤ Refusal) (table program : List ℕ) → OneOutcome (λ (r : Result ⊤ Refusal). r ≡ loaded_with sizes table program)
  -- crates/loader/src/answers.rt
  pub write_one : (room : List ℕ) (a : Answer) → OneOutcome (λ (room' : List ℕ). room' ≡ room_with a room)
  pub answer_from_refusal_one : (r : Refusal) → OneOutcome (λ (s : Answer). s ≡ refusal_answer r)
  pub answer_from_result_refusal_one : (l : Result ⊤ Refusal) → OneOutcome (λ (r : Answer). r ≡ load_answer l)
