-- Document 01, "Schedule rule", of a program: its syllables under a table's delays.
use Rattle.std.specs.Prelude.{List, ◌++◌, map, ℕ, ◌≤◌, Result, Ok, Err}
use Rattle.vliw.specs.Machine.{Dest}
use Rattle.vliw.specs.Schedule.{TouchesTooSoon}
use Rattle.isa.specs.Program.{is_start, operations_at}
use Rattle.isa.specs.Touch.{reads, dests}
use Rattle.isa.specs.declared.Delays.{Delays}
use Rattle.reach.specs.Nexts.{nexts_at}
use Rattle.schedule.specs.declared.TooSoon.{TooSoon}

-- the schedule is good, or the consumer touches a result of the producer too soon
abbrev pub Verdict : Type 0
Verdict = Result (Unit {0}) TooSoon

module _ (d : Delays) (program : List ℕ) where
  abbrev pub dests_at : ℕ → List Dest
  dests_at i = dests d (operations_at program i)

  -- reads and destinations
  abbrev pub uses_at : ℕ → List ℕ
  uses_at i = reads (operations_at program i) ++ map (λ (e : Dest). e.reg) (dests_at i)

  -- q touches a result of p too soon
  abbrev pub TooSoonAt : ℕ → ℕ → Type 0
  TooSoonAt = TouchesTooSoon (is_start program) dests_at (nexts_at program) uses_at

  -- "The answer names the lowest such p and, for it, the lowest such q"
  abbrev pub Says : Verdict → Type 0
  Says (Ok _) = (p q : ℕ) → TooSoonAt p q → ⊥
  Says (Err e) =
      TooSoonAt e.producer.0 e.consumer.0 × ((i j : ℕ) → TooSoonAt i j → e.producer.0 ≤ i) × ((j : ℕ) → TooSoonAt e.producer.0 j → e.consumer.0 ≤ j)
