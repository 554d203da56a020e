-- Document 01, "Checked values", all of it as a single table: the operations, the swap and the schedule row.
use Rattle.std.specs.Prelude.{◌≡◌, [], ◌∷◌, ℕ, Ok}
use Rattle.std.proofs.lemmas.List.Edits.{sets}
use Rattle.word.specs.Bytes.{bytes, word_at}
use Rattle.ops.specs.Value.{value, carry}
use Rattle.isa.specs.Decode.{immediate_of}
use Rattle.machine.specs.Image.{image_offset}
use Rattle.call.specs.Run.{Call, run_outcome}
use Rattle.samples.specs.Wrong.{table, room}
use Rattle.samples.specs.WrongRun.{zeros}
use Rattle.samples.specs.Schedules.{two, three, SaidOf, too_soon}

-- 410C4800 81103800, then a stop, with x in register 3 and y in register 4
abbrev pub swapping : ℕ → ℕ → Call
swapping x y =
    record {
      table = table;
      program = 0x41 ∷ 0x0C ∷ 0x48 ∷ 0x00 ∷ 0x81 ∷ 0x10 ∷ 0x38 ∷ 0x00 ∷ 0xC0 ∷ 0x04 ∷ 0x00 ∷ 0x00 ∷ [];
      state = sets (sets zeros (image_offset 3) (bytes 4 x)) (image_offset 4) (bytes 4 y);
      memory = [];
      landing = [];
      n = 1;
      room = room;
    }

-- the value of a register in what the swap leaves
abbrev pub left_in : ℕ → ℕ
left_in r = word_at (image_offset r) (run_outcome (swapping 0x33333333 0x44444444)).state

pub record Checked : Type 0 where
  pub add : value 1 0xFFFFFFFF 1 0 ≡ 0
  pub sub : value 2 1 (immediate_of 0) 0 ≡ 0xFFFFFFFF
  pub andc : value 4 0xF0F0 0xFFFF 0 ≡ 0x0F0F
  pub mpyll : value 24 0x8000 0x8000 0 ≡ 0x40000000
  pub mpylhu : value 27 0xFFFF 0xFFFF0000 0 ≡ 0xFFFE0001
  pub shr : value 9 0x80000000 0x1F 0 ≡ 0xFFFFFFFF
  pub shl : value 8 1 0x20 0 ≡ 1
  pub addcg : (value 23 0xFFFFFFFF 0 1 ≡ 0) × (carry 0xFFFFFFFF 0 1 ≡ 1)
  pub sh4add : value 14 0x10000001 2 0 ≡ 0x12
  -- the immediate's bits are all 1: -1
  pub maxu : value 16 0 (immediate_of 0x7FF) 0 ≡ 0xFFFFFFFF
  pub swap : (left_in 3 ≡ 0x44444444) × (left_in 4 ≡ 0x33333333)
  -- "With LOAD 3 a reader two instructions on is 9, three on is not."
  pub two_on : SaidOf two (too_soon 0 2)
  pub three_on : SaidOf three (Ok tt)
