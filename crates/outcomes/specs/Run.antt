-- Written by tests/public. The promise of each public function of run admits one outcome only.
use Rattle.std.specs.Prelude.{List, true, ℕ, ◌<◌, ◌^◌, ◌≡◌}
use Rattle.word.specs.Bytes.{words}
use Rattle.vliw.specs.Machine.{in_order, step}
use Rattle.vliw.specs.Run.{run}
use Rattle.isa.specs.Program.{is_start}
use Rattle.isa.specs.declared.Count.{Count}
use Rattle.isa.specs.declared.Table.{Table}
use Rattle.machine.specs.Instruction.{instruction_of}
use Rattle.machine.specs.Link.{change, memory_of}
use Rattle.machine.specs.State.{registers_of}
use Rattle.machine.specs.declared.State.{State}
use Rattle.run.specs.Loop.{Returned}
use Rattle.run.specs.declared.Left.{Left}
use Rattle.outcomes.specs.OneOutcome.{OneOutcome}

pub record Run : Type 0 where
  -- crates/run/src/lib.rt
  pub run_one : (table : Table) (program memory landing : List ℕ) (n : Count) (s : State)
      → OneOutcome (λ (o : record { result : Left; memory : List ℕ }).
      ((is_start (words program) o.result.state.place.0 ≡ true) × (o.result.state.link.0 < 2 ^ 32))
      × (Returned (run (step change (instruction_of table.delays (words program))) n.0
      (record { place = s.place.0; registers = registers_of s; memory = memory_of memory s.link.0; landing = landing; orders = in_order })) o.result
      o.memory))
