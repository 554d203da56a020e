-- Demand 3, over the machine of run's promise: landings and the order of writes cannot be seen.
use Rattle.std.specs.Prelude.{◌≡◌, ◌≢◌, false, List, map, ℕ}
use Rattle.word.specs.Bytes.{words}
use Rattle.vliw.specs.Run.{number_of, Ran, run}
use Rattle.vliw.specs.Cell.{at, landed}
use Rattle.vliw.specs.Machine.{Instruction, Orders, AnyOrder, Situation}
use Rattle.vliw.specs.Plain.{Plain, step_plain}
use Rattle.vliw.specs.Demand3.{settled, Unseen}
use Rattle.tables.specs.Table.{table_of}
use Rattle.loader.specs.Answer.{answer, RoomOutcome, room_with}
use Rattle.schedule.specs.Answer.{Checks}
use Rattle.machine.specs.Link.{Memory, Change, memory_of, change}
use Rattle.machine.specs.Instruction.{instruction_of}
use Rattle.machine.specs.Image.{place_in, registers_in, link_in}
use Rattle.machine.specs.Valid.{bad_state}
use Rattle.call.specs.Run.{Call, Outcome, state_of, run_outcome}
use Rattle.demands.specs.Calls.{Lent, with_landing, Refuses}

-- the program loads under the table and passes the check: check's promise lets it answer 0
pub record Passes (table program : List ℕ) : Type 0 where
  pub room : List ℕ
  pub left : RoomOutcome
  pub checks : Checks table program room left
  pub clean : left.result ≡ 0

-- "Nothing is in flight means that every busy is 0."
abbrev pub NothingInFlight : List ℕ → Type 0
NothingInFlight image = (r : ℕ) → (at (registers_in image) r).busy ≡ 0

-- the instructions of run's promise
abbrev pub instructions : List ℕ → List ℕ → ℕ → Instruction Memory Change
instructions table program = instruction_of (table_of table).delays (words program)

abbrev pub start : List ℕ → List ℕ → List ℕ → Orders Change → Situation Memory Change
start image memory landing orders =
    record { place = place_in image; registers = registers_in image; memory = memory_of memory (link_in image); landing = landing; orders = orders }

-- what the plain machine makes of a call: it has no busy, landing or waiting, and takes no landing bytes
abbrev pub plain_ran : Call → Ran (Plain Memory)
plain_ran c = run (step_plain change (instructions c.table c.program)) c.n (settled (state_of c))

-- what a call leaves is what the plain machine leaves, its registers once everything in flight has landed; "Demand 3 counts the link register
-- among the registers."
pub record Plainly (c : Call) (o : Outcome) : Type 0 where
  pub number : o.result ≡ number_of (plain_ran c).ending
  pub room : let r = plain_ran c in o.room ≡ room_with (answer (number_of r.ending) r.count r.state.place) c.room
  pub memory : o.memory ≡ (plain_ran c).state.memory.bytes
  pub place : place_in o.state ≡ (plain_ran c).state.place
  pub registers : map landed (registers_in o.state) ≡ (plain_ran c).state.registers
  pub link : link_in o.state ≡ (plain_ran c).state.memory.link

-- two outcomes that a client cannot tell apart once everything in flight has landed
pub record Alike (a b : Outcome) : Type 0 where
  pub number : a.result ≡ b.result
  pub room : a.room ≡ b.room
  pub memory : a.memory ≡ b.memory
  pub place : place_in a.state ≡ place_in b.state
  pub registers : map landed (registers_in a.state) ≡ map landed (registers_in b.state)
  pub link : link_in a.state ≡ link_in b.state

pub record Demand3 : Type 0 where
  -- for all landing bytes, and the results and the stores of each instruction written in any order: number, count, place, memory,
  -- landed registers and link are the plain machine's, and the number is not 11
  pub unseen : (table program : List ℕ) → Passes table program
      → (image : List ℕ) → bad_state (words program) image ≡ false → NothingInFlight image
      → (memory landing : List ℕ) (orders : Orders Change) → AnyOrder orders → (n : ℕ)
      → Unseen change (instructions table program) (start image memory landing orders) n
  -- so two calls of run with any two lists of landing bytes leave the same
  pub alike : (c : Call) → Lent c → Passes c.table c.program → NothingInFlight c.state → (landing : List ℕ)
      → Alike (run_outcome c) (run_outcome (with_landing landing c))
  -- "Demand 3 counts the link register among the registers.": outcomes whose links differ are not alike
  pub linked : (a b : Outcome) → link_in a.state ≢ link_in b.state → ¬ Alike a b
  pub plain : (c : Call) → Lent c → Passes c.table c.program → NothingInFlight c.state → ¬ Refuses (run_outcome c) → Plainly c (run_outcome c)
  pub unfaulted : (c : Call) → Passes c.table c.program → NothingInFlight c.state → (run_outcome c).result ≢ 11
