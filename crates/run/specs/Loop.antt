-- Private to the run's loop, nobody has to believe it: what its turns come to, one after the other, and what is left of them.
use Rattle.std.specs.Prelude.{◌≡◌, true, List, ℕ, ◌+◌, ◌^◌, ◌≤◌, ◌<◌}
use Rattle.vliw.specs.Run.{Ran, run}
use Rattle.vliw.specs.Machine.{Situation, step}
use Rattle.vliw.specs.declared.Ending.{Ending}
use Rattle.vliw.specs.declared.Ending.TheVariants.{Paused, Stopped, Faulted}
use Rattle.isa.specs.Program.{is_start}
use Rattle.isa.specs.declared.Delays.{Delays}
use Rattle.machine.specs.Link.{Memory, Change, change}
use Rattle.machine.specs.Instruction.{instruction_of}
use Rattle.machine.specs.State.{registers_of, Sized}
use Rattle.ticks.specs.Ticks.{views, Bank}
use Rattle.ticks.specs.declared.Register.{Register}
use Rattle.turn.specs.Turn.{situation_at, beside, ended_by}
use Rattle.run.specs.declared.Ended.{Ended}
use Rattle.run.specs.declared.Left.{Left}

-- at most n turns from s to where r stands, and the registers
pub record Finished (d : Delays) (program landing : List ℕ) (n : ℕ) (s : Situation Memory Change) (r : Ended) (rs : List Register) (m : List ℕ) : Type 0 where
  pub few : r.count.0 ≤ n
  pub bank : Bank r.count.0 rs
  pub start : is_start program r.at.place.0 ≡ true
  pub low : r.at.link.place.0 < 2 ^ 32
  pub is : run (step change (instruction_of d program)) n s
      ≡ record { ending = r.ending; count = r.count.0; state = ended_by r.ending (situation_at r.at.place.0 (views r.count.0 rs) (beside m r.at.link) landing r.at.used) }

-- k instructions are done, and the rest of the run is r
abbrev pub after : ℕ → Ran (Situation Memory Change) → Ran (Situation Memory Change)
after k r = record { ending = r.ending; count = k + r.count; state = r.state }

-- a run as the code returns it, with the memory that it leaves
pub record Returned (o : Ran (Situation Memory Change)) (r : Left) (m : List ℕ) : Type 0 where
  pub sized : Sized r.state
  pub ending : o.ending ≡ r.ending
  pub count : o.count ≡ r.count.0
  pub place : o.state.place ≡ r.state.place.0
  pub registers : o.state.registers ≡ registers_of r.state
  pub memory : o.state.memory.bytes ≡ m
  pub link : o.state.memory.link ≡ r.state.link.0

-- the tick at which a run is left: a stop lands everything, as seven ticks do
abbrev pub left_at : Ending → ℕ → ℕ
left_at Paused count = count
left_at Stopped count = count + 8
left_at (Faulted f) count = count
