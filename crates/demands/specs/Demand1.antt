-- Demand 1: every call is answered, a refusal executes nothing, and a fault keeps what came earlier and lets nothing of its own instruction through.
-- The entries take every input: none has a `requires`. Load and check may change the answer room alone.
use Rattle.std.specs.Prelude.{◌≡◌, ◌≢◌, ◌⊎◌, false, List, ℕ, ◌≤◌, ◌<◌, length}
use Rattle.word.specs.Bytes.{words}
use Rattle.loader.specs.Answer.{answer, RoomOutcome, load_outcome}
use Rattle.schedule.specs.Answer.{Checks}
use Rattle.machine.specs.Image.{place_in}
use Rattle.machine.specs.Valid.{bad_state}
use Rattle.call.specs.Run.{Call, Outcome, run_outcome}
use Rattle.demands.specs.Calls.{Lent, with_limit, second, outcome, Pauses, Stops, Refuses, Faults}
use Rattle.demands.specs.Exact.{RunBreaks, First}

-- what a call leaves that ends with a number and a count where o stands
abbrev pub left : Outcome → ℕ → ℕ → List ℕ → Outcome
left o number count room = outcome (answer number count (place_in o.state)) o.state o.memory room

-- "For 11 to 14 the state stands before the faulting instruction, with all earlier ones done", and for 17: k of them, and a run of just these
-- pauses there
pub record Faulted (c : Call) (o : Outcome) : Type 0 where
  pub k : ℕ
  pub fewer : k < c.n
  pub faulted : o ≡ left o o.result k c.room
  pub paused : run_outcome (with_limit k c) ≡ left o 0 k c.room

-- "A room not of 12 bytes is never written, under any number."
pub record Rooms : Type 0 where
  pub load : (table program room : List ℕ) → length room ≢ 12 → (load_outcome table program room).room ≡ room
  pub check : (table program room : List ℕ) (o : RoomOutcome) → Checks table program room o → length room ≢ 12 → o.room ≡ room
  pub run : (c : Call) → length c.room ≢ 12 → (run_outcome c).room ≡ c.room

pub record Demand1 : Type 0 where
  -- every call pauses, stops, is refused or faults; 9 is check's alone
  pub answered : (c : Call) → let o = run_outcome c in Pauses o ⊎ Stops o ⊎ Refuses o ⊎ Faults o
  pub unchecked : (c : Call) → (run_outcome c).result ≢ 9
  -- "1 to 10 execute nothing": state and memory are as given, and the count is 0; the number is the first that breaks, and there
  pub refused : (c : Call) → let o = run_outcome c in Refuses o
      → (place : ℕ) × First (RunBreaks c) o.result 0 place × (o ≡ outcome (answer o.result 0 place) c.state c.memory c.room)
  pub faulted : (c : Call) → let o = run_outcome c in Lent c → Faults o → Faulted c o
  -- "so a second call with n above 0 faults at the same place": it changes nothing, whatever landing bytes it is lent; nor does one at a stop
  pub again : (c : Call) → let o = run_outcome c in Lent c → 11 ≤ o.result → (landing : List ℕ) (n : ℕ) → 1 ≤ n
      → run_outcome (second c o landing n) ≡ left o o.result 0 o.room
  -- "n = 0 changes nothing, also at a stop"
  pub none : (c : Call) → let o = run_outcome c in Lent c → c.n ≡ 0 → ¬ Refuses o
      → o ≡ outcome (answer 0 0 (place_in c.state)) c.state c.memory c.room
  -- a run leaves a valid state, so that no second call is refused because of the first
  pub valid : (c : Call) → let o = run_outcome c in Lent c → ¬ Refuses o → bad_state (words c.program) o.state ≡ false
  pub taken : (c : Call) → let o = run_outcome c in Lent c → ¬ Refuses o → (landing : List ℕ) (n : ℕ) → ¬ Refuses (run_outcome (second c o landing n))
  pub rooms : Rooms
