-- Written by tests/public. The promise of each public function of assembler admits one outcome only.
use Rattle.std.specs.Prelude.{List, Result, length, ℕ, ◌≡◌}
use Rattle.values.specs.declared.Fault.{Fault}
use Rattle.source.specs.Reader.{hear_all}
use Rattle.evaluation.specs.declared.labels.Labels.{Labels}
use Rattle.assembler.specs.Answer.{assemble_outcome}
use Rattle.assembler.specs.Faults.{verdict}
use Rattle.assembler.specs.Passes.{Within, number_of_wrong, verdict_in, wrong_by}
use Rattle.assembler.specs.declared.judging.LowestFault.{LowestFault}
use Rattle.assembler.specs.declared.judging.Wrong.{Wrong}
use Rattle.outcomes.specs.OneOutcome.{OneOutcome}

pub record Assembler : Type 0 where
  -- crates/assembler/src/lib.rt
  pub assemble_one : (text program room : List ℕ)
      → OneOutcome (λ (o : record { result : ℕ; program : List ℕ; room : List ℕ }).
      record { result = o.result; program = o.program; room = o.room } ≡ assemble_outcome text program room)
  -- crates/assembler/src/judging.rt
  pub wrong_number_one : (self : Wrong) → OneOutcome (λ (r : ℕ). r ≡ number_of_wrong self)
  pub judge_one : (labels : Labels)
      → OneOutcome (λ (r : Result ℕ LowestFault).
      (verdict_in r ≡ verdict (hear_all labels.text.now)) × Within (length labels.text.now) (verdict_in r))
  pub wrong_from_fault_one : (fault : Fault) → OneOutcome (λ (r : Wrong). r ≡ wrong_by fault)
