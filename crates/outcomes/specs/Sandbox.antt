-- Written by tests/public. The promise of each public function of sandbox admits one outcome only.
use Rattle.std.specs.Prelude.{List, ℕ, ◌≡◌}
use Rattle.loader.specs.Answer.{load_outcome}
use Rattle.schedule.specs.Answer.{Checks}
use Rattle.assembler.specs.Answer.{assemble_outcome}
use Rattle.call.specs.Run.{run_outcome}
use Rattle.outcomes.specs.OneOutcome.{OneOutcome}

pub record Sandbox : Type 0 where
  -- crates/sandbox/src/lib.rt
  pub vex_assemble_one : (text program room : List ℕ)
      → OneOutcome (λ (o : record { result : ℕ; program : List ℕ; room : List ℕ }).
      record { result = o.result; program = o.program; room = o.room } ≡ assemble_outcome text program room)
  pub vex_load_one : (table program room : List ℕ)
      → OneOutcome (λ (o : record { result : ℕ; room : List ℕ }).
      record { result = o.result; room = o.room } ≡ load_outcome table program room)
  pub vex_check_one : (table program room : List ℕ)
      → OneOutcome (λ (o : record { result : ℕ; room : List ℕ }).
      Checks table program room (record { result = o.result; room = o.room }))
  pub vex_run_one : (table program state memory landing : List ℕ) (n : ℕ) (room : List ℕ)
      → OneOutcome (λ (o : record { result : ℕ; state : List ℕ; memory : List ℕ; room : List ℕ }).
      record { result = o.result; state = o.state; memory = o.memory; room = o.room }
      ≡ run_outcome (record { table = table; program = program; state = state; memory = memory; landing = landing; n = n; room = room }))
