-- Written by tests/public. The promise of each public function of schedule admits one outcome only.
use Rattle.std.specs.Prelude.{List, Result, ℕ, ⊤, ◌≡◌}
use Rattle.word.specs.Bytes.{words}
use Rattle.isa.specs.declared.Table.{Table}
use Rattle.loader.specs.declared.Answer.{Answer}
use Rattle.schedule.specs.Answer.{verdict_answer}
use Rattle.schedule.specs.Rule.{Says}
use Rattle.schedule.specs.declared.TooSoon.{TooSoon}
use Rattle.outcomes.specs.OneOutcome.{OneOutcome}

pub record Schedule : Type 0 where
  -- crates/schedule/src/lib.rt
  pub check_one : (table : Table) (program : List ℕ) → OneOutcome (λ (r : Result ⊤ TooSoon). Says table.delays (words program) r)
  -- crates/schedule/src/answers.rt
  pub of_verdict_one : (v : Result ⊤ TooSoon) → OneOutcome (λ (r : Answer). r ≡ verdict_answer v)
