-- What a call that runs leaves: an image and a memory that hold the machine's state, and a second call reads just this state.
use mathlib.Core.Path.{◌≡◌, refl}
use mathlib.Core.Bool.{true, false, not}
use mathlib.Core.List.{List}
use Prim.Native.Nat.{ℕ, ◌≤◌}
use lib.ListN.{length}
use borrow.Author.Tests.{eq-eqb, not-false}
use Rattle.word.specs.Bytes.{words}
use Rattle.word.proofs.Choice.{or_false}
use Rattle.vliw.specs.Machine.{Situation, in_order}
use Rattle.isa.specs.Program.{is_start}
use Rattle.tables.specs.Table.{table_of}
use Rattle.loader.specs.Answer.{room_with}
use Rattle.loader.specs.declared.Answer.{Answer}
use Rattle.machine.specs.Link.{Memory, Change, memory_of}
use Rattle.machine.specs.Image.{place_in, registers_in, link_in, image_of}
use Rattle.machine.specs.Valid.{bad_state_with, bad_state}
use Rattle.call.specs.Run.{Call, state_of, ran_of}
use Rattle.call.proofs.Fits.{start_small, few_syllables}
use Rattle.machine.proofs.Images.{registers_length, registers_small, link_small, read_image, image_of_length}
use Rattle.call.proofs.Stays.{Fine, stays}
use Rattle.machine.proofs.Validity.{registers_valid, valid_registers}
use Rattle.demands.specs.Calls.{Lent, second}
use Rattle.demands.proofs.Memory.{memory_length}
use Rattle.demands.proofs.Endings.{lending}
use Rattle.demands.proofs.Taken.{left_by, Taken, taken_fits, taken_passed, taken_bounds, taken_by}

-- the start of a call is as its image holds it
pub begins : (p image : List ℕ) → bad_state p image ≡ false
    → (is_start p (place_in image) ≡ true) × (bad_state_with p (place_in image) (registers_in image) ≡ false)
unfolding bad_state
begins p image h = (not-false (is_start p (place_in image)) (or_false _ _ h).0, h)

start_fine : (c : Call) → Taken c → Lent c → Fine (words c.program) (state_of c)
start_fine c t l =
    let (start, whole) = begins (words c.program) c.state t.valid in
    record {
      start = start;
      long = registers_length c.state;
      small = registers_small c.state l.state;
      valid = registers_valid (registers_in c.state) (or_false (not (is_start (words c.program) (place_in c.state))) _ whole).1;
      memory = l.memory;
      link = link_small c.state l.state;
    }

abbrev image : Situation Memory Change → List ℕ
image s = image_of s.place s.registers s.memory.link

-- a state that the image holds
pub record Held (p : List ℕ) (s : Situation Memory Change) : Type 0 where
  pub place : place_in (image s) ≡ s.place
  pub registers : registers_in (image s) ≡ s.registers
  pub link : link_in (image s) ≡ s.memory.link
  pub size : length (image s) ≡ 2888
  pub valid : bad_state p (image s) ≡ false

held : (program : List ℕ) (s : Situation Memory Change) → length program ≤ 16384 → Fine (words program) s → Held (words program) s
unfolding bad_state
held program s b f =
    let h = read_image s.place s.registers s.memory.link (start_small program s.place b f.start) f.link f.long f.small in
    record {
      place = h.place;
      registers = h.registers;
      link = h.link;
      size = image_of_length s.place s.registers s.memory.link f.long;
      valid = rw (h.place, h.registers, f.start, valid_registers s.registers f.valid);
    }

room_length : (a : Answer) (room : List ℕ) → length room ≡ 12 → length (room_with a room) ≡ 12
unfolding room_with
room_length a room e = rw (eq-eqb (length room) 12 e)

module _ (c : Call) (t : Taken c) (l : Lent c) where
  abbrev left : Situation Memory Change
  left = (ran_of c).state

  pub left_held : Held (words c.program) left
  left_held =
      held c.program left (taken_fits t).few
      (stays (taken_passed t) (taken_bounds t) (few_syllables c.program (taken_fits t).few) c.n (state_of c) refl (start_fine c t l))

  pub left_memory : length left.memory.bytes ≡ length c.memory
  left_memory = memory_length (table_of c.table).delays (words c.program) c.n (state_of c)

  -- a second call
  module _ (landing : List ℕ) (n : ℕ) where
    abbrev next : Call
    next = second c (left_by (ran_of c) c.room) landing n

    pub next_taken : Taken next
    next_taken =
        let f = taken_fits t in
        taken_by c next t refl refl
        (record {
          program = f.program;
          few = f.few;
          memory = rw left_memory f.memory;
          state = left_held.size;
          room = room_length _ c.room f.room;
        })
        left_held.valid

    pub next_state : state_of next ≡ lending landing in_order left
    next_state =
        λ k.
        record {
          place = left_held.place k;
          registers = left_held.registers k;
          memory = memory_of left.memory.bytes (left_held.link k);
          landing = landing;
          orders = in_order;
        }
