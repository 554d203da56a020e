-- The paper's number, count and place of each refusal, and what they leave in the answer room.
use Rattle.std.specs.Prelude.{List, ◌++◌, ℕ, eqb, length, Ok, Err}
use Rattle.word.specs.Choice.{pick}
use Rattle.word.specs.Bytes.{bytes}
use Rattle.loader.specs.Load.{Loaded, loaded_of}
use Rattle.loader.specs.declared.Answer.{Answer}
use Rattle.loader.specs.declared.Refusal.{Refusal}
use Rattle.loader.specs.declared.Refusal.TheVariants.{BadTable, ProgramLength, MemoryLength, StateLength, RoomLength, NoEnd, BadBits, BadCluster, TooWide, TwoWrites, BadControl}

abbrev pub answer : ℕ → ℕ → ℕ → Answer
answer number count place = record { number = number; count = count; place = place }

abbrev pub refusal_answer : Refusal → Answer
refusal_answer BadTable = answer 1 0 0
refusal_answer ProgramLength = answer 2 0 0
refusal_answer MemoryLength = answer 2 0 1
refusal_answer StateLength = answer 2 0 2
refusal_answer RoomLength = answer 2 0 3
refusal_answer (NoEnd i) = answer 3 0 i.0
refusal_answer (BadBits i) = answer 4 0 i.0
refusal_answer (BadCluster i) = answer 5 0 i.0
refusal_answer (TooWide i) = answer 6 0 i.0
refusal_answer (TwoWrites i) = answer 7 0 i.0
refusal_answer (BadControl i) = answer 8 0 i.0

abbrev pub load_answer : Loaded → Answer
load_answer (Ok tt) = answer 0 0 0
load_answer (Err r) = refusal_answer r

-- "The answer room gets number, count, place, 4 bytes each"; "A room not of 12 bytes is never written, under any number."
unfoldable pub room_with : Answer → List ℕ → List ℕ
room_with a room = pick (eqb (length room) 12) (bytes 4 a.number ++ (bytes 4 a.count ++ bytes 4 a.place)) room

-- all that a call of load or of check leaves
pub record RoomOutcome : Type 0 where
  pub result : ℕ
  pub room : List ℕ

abbrev pub answered : Answer → List ℕ → RoomOutcome
answered a room = record { result = a.number; room = room_with a room }

abbrev pub load_outcome : List ℕ → List ℕ → List ℕ → RoomOutcome
load_outcome table program room = answered (load_answer (loaded_of table program room)) room
