-- Calls of run that differ in one thing, what a host lends them, and what they leave.
use Rattle.std.specs.Prelude.{◌≡◌, ◌⊎◌, List, ℕ, ◌≤◌}
use Rattle.word.specs.Bytes.{AreBytes}
use Rattle.loader.specs.Answer.{room_with}
use Rattle.loader.specs.declared.Answer.{Answer}
use Rattle.call.specs.Reply.{reply_answer}
use Rattle.call.specs.Run.{Call, Outcome, done_of}

-- a host lends bytes
pub record Lent (c : Call) : Type 0 where
  pub state : AreBytes c.state
  pub memory : AreBytes c.memory

-- the same call with another limit, with other landing bytes
abbrev pub with_limit : ℕ → Call → Call
with_limit n c =
    record {
      table = c.table;
      program = c.program;
      state = c.state;
      memory = c.memory;
      landing = c.landing;
      n = n;
      room = c.room;
    }

abbrev pub with_landing : List ℕ → Call → Call
with_landing landing c =
    record {
      table = c.table;
      program = c.program;
      state = c.state;
      memory = c.memory;
      landing = landing;
      n = c.n;
      room = c.room;
    }

-- a second call, on the state, memory and room that the first one left
abbrev pub second : Call → Outcome → List ℕ → ℕ → Call
second c o landing n =
    record {
      table = c.table;
      program = c.program;
      state = o.state;
      memory = o.memory;
      landing = landing;
      n = n;
      room = o.room;
    }

-- a call's answer; a room of 12 bytes gets it
abbrev pub run_answer : Call → Answer
run_answer c = reply_answer (done_of c).reply

-- what a call leaves, by its answer
abbrev pub outcome : Answer → List ℕ → List ℕ → List ℕ → Outcome
outcome a state memory room =
    record { result = a.number; state = state; memory = memory; room = room_with a room }

-- the kinds of answer: 0; 255; 1 to 10; 11 to 14 and 17
abbrev pub Pauses : Outcome → Type 0
Pauses o = o.result ≡ 0

abbrev pub Stops : Outcome → Type 0
Stops o = o.result ≡ 255

abbrev pub Refuses : Outcome → Type 0
Refuses o = (1 ≤ o.result) × (o.result ≤ 10)

abbrev pub Faults : Outcome → Type 0
Faults o = ((11 ≤ o.result) × (o.result ≤ 14)) ⊎ (o.result ≡ 17)
