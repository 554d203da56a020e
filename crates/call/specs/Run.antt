-- A call of run: refusals 1 to 8 and 10, then at most n instructions.
use Rattle.std.specs.Prelude.{List, ℕ, Ok, Err}
use Rattle.word.specs.Choice.{pick}
use Rattle.word.specs.Bytes.{words}
use Rattle.vliw.specs.Run.{Ran, run}
use Rattle.vliw.specs.Machine.{Situation, in_order, step}
use Rattle.tables.specs.Table.{table_of}
use Rattle.refusals.specs.Broken.{bad_program_length, bad_memory_length, bad_state_length, bad_room_length}
use Rattle.loader.specs.Load.{Loaded, ◌otherwise◌, refused_if, loaded_with}
use Rattle.loader.specs.Answer.{room_with}
use Rattle.loader.specs.declared.Refusal.TheVariants.{ProgramLength, MemoryLength, StateLength, RoomLength}
use Rattle.machine.specs.Link.{Memory, Change, memory_of, change}
use Rattle.machine.specs.Instruction.{instruction_of}
use Rattle.machine.specs.Image.{place_in, registers_in, link_in, image_of}
use Rattle.machine.specs.Valid.{bad_state}
use Rattle.call.specs.Reply.{Reply, reply_answer}
use Rattle.call.specs.declared.Unrun.{Unrun}
use Rattle.call.specs.declared.Unrun.TheVariants.{Refused, BadState}

-- all that a call takes and may change
pub record Call : Type 0 where
  pub table : List ℕ
  pub program : List ℕ
  pub state : List ℕ
  pub memory : List ℕ
  pub landing : List ℕ
  pub n : ℕ
  pub room : List ℕ

pub record Outcome : Type 0 where
  pub result : ℕ
  pub state : List ℕ
  pub memory : List ℕ
  pub room : List ℕ

-- the machine's state, as the image and the memory hold it
abbrev pub state_of : Call → Situation Memory Change
state_of c =
    record {
      place = place_in c.state;
      registers = registers_in c.state;
      memory = memory_of c.memory (link_in c.state);
      landing = c.landing;
      orders = in_order;
    }

abbrev pub ran_of : Call → Ran (Situation Memory Change)
ran_of c = run (step change (instruction_of (table_of c.table).delays (words c.program))) c.n (state_of c)

-- what a call comes to, before the answer is given
pub record Done : Type 0 where
  pub reply : Reply
  pub state : List ℕ
  pub memory : List ℕ

-- "1 to 10 execute nothing"
abbrev pub refused : Unrun → Call → Done
refused u c = record { reply = Err u; state = c.state; memory = c.memory }

abbrev pub ended : Ran (Situation Memory Change) → Done
ended r =
    let s = r.state in
    record {
      reply = Ok (record { ending = r.ending; count = record { 0 = r.count }; place = record { 0 = s.place } });
      state = image_of s.place s.registers s.memory.link;
      memory = s.memory.bytes;
    }

abbrev pub done_by : Loaded → Call → Done
done_by (Err r) c = refused (Refused r) c
done_by (Ok tt) c = pick (bad_state (words c.program) c.state) (refused BadState c) (ended (ran_of c))

-- 2: "program size; memory size; state image not 2,884 bytes; answer room not 12 bytes (in this order)"; by order 1 2,888
abbrev pub sizes_of : List ℕ → List ℕ → List ℕ → List ℕ → Loaded
sizes_of program memory state room =
    refused_if (bad_program_length program) ProgramLength
    otherwise refused_if (bad_memory_length memory) MemoryLength
    otherwise refused_if (bad_state_length state) StateLength
    otherwise refused_if (bad_room_length room) RoomLength

unfoldable pub done_of : Call → Done
done_of c = done_by (loaded_with (sizes_of c.program c.memory c.state c.room) c.table c.program) c

-- all that a call of run leaves
abbrev pub run_outcome : Call → Outcome
run_outcome c =
    let d = done_of c in
    let a = reply_answer d.reply in
    record { result = a.number; state = d.state; memory = d.memory; room = room_with a c.room }
