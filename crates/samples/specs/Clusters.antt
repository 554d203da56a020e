-- A program that demand 3 speaks of, with a load, a multiplication, a branch and both clusters: it passes, and its run leaves what is said here.
use Rattle.std.specs.Prelude.{◌≡◌, false, List, [], ◌∷◌, ℕ}
use Rattle.word.specs.Bytes.{words}
use Rattle.vliw.specs.Cell.{at, landed}
use Rattle.machine.specs.Image.{registers_in}
use Rattle.machine.specs.Valid.{bad_state}
use Rattle.call.specs.Run.{Call, Outcome, run_outcome}
use Rattle.demands.specs.Demand3.{Passes, NothingInFlight}
use Rattle.samples.specs.Wrong.{room}
use Rattle.samples.specs.WrongRun.{zeros}

-- two clusters; ALU 1, CMPB 2, MUL 2, LOAD 3, COPY 1
abbrev pub table : List ℕ
table = 2 ∷ 4 ∷ 4 ∷ 2 ∷ 1 ∷ 1 ∷ 4 ∷ 4 ∷ 2 ∷ 1 ∷ 1 ∷ 1 ∷ 2 ∷ 2 ∷ 3 ∷ 1 ∷ []

abbrev pub program : List ℕ
program =
    0xF4 ∷ 0x04 ∷ 0x00 ∷ 0x00  -- 0: ldw 1 = 0[0]
    ∷ 0xC0 ∷ 0x00 ∷ 0x00 ∷ 0x00  -- 1: nop
    ∷ 0xC0 ∷ 0x00 ∷ 0x00 ∷ 0x00  -- 2: nop
    ∷ 0x58 ∷ 0x0C ∷ 0x18 ∷ 0x06  -- 3: mpyll 3 = 1, 6
    ∷ 0xAA ∷ 0x04 ∷ 0x18 ∷ 0x08  -- cmplt b1 = 1, 8
    ∷ 0xC0 ∷ 0x00 ∷ 0x00 ∷ 0x00  -- 5: nop
    ∷ 0x7E ∷ 0x20 ∷ 0x00 ∷ 0x09  -- 6: br b1, 9
    ∷ 0xC1 ∷ 0x08 ∷ 0x08 ∷ 0x03  -- in cluster 1, add 2 = 0, 3
    ∷ 0xC0 ∷ 0x04 ∷ 0x00 ∷ 0x00  -- 8: stop
    ∷ 0x7B ∷ 0x0C ∷ 0x00 ∷ 0x04  -- 9: stb 4[0] = 3
    ∷ 0xD9 ∷ 0x10 ∷ 0x20 ∷ 0x02  -- in cluster 1, mpyllu 4 = 2, 2
    ∷ 0xC0 ∷ 0x04 ∷ 0x00 ∷ 0x00  -- 11: stop
    ∷ []

-- a word, and a word with a byte after it
abbrev pub word : List ℕ
word = 0 ∷ 0 ∷ 0 ∷ 7 ∷ []

abbrev pub longer : List ℕ
longer = 0 ∷ 0 ∷ 0 ∷ 7 ∷ 0 ∷ []

abbrev pub call : List ℕ → List ℕ → Call
call memory landing =
    record {
      table = table;
      program = program;
      state = zeros;
      memory = memory;
      landing = landing;
      n = 100;
      room = room;
    }

-- number, count and place; the stored byte; 3 of cluster 0 and 4 of cluster 1 once everything has landed
pub record Leaves (o : Outcome) : Type 0 where
  pub number : o.result ≡ 255
  pub room : o.room ≡ 0 ∷ 0 ∷ 0 ∷ 255 ∷ 0 ∷ 0 ∷ 0 ∷ 7 ∷ 0 ∷ 0 ∷ 0 ∷ 11 ∷ []
  pub memory : o.memory ≡ 0 ∷ 0 ∷ 0 ∷ 7 ∷ 42 ∷ []
  pub product : landed (at (registers_in o.state) 3) ≡ 42
  pub square : landed (at (registers_in o.state) 68) ≡ 9

-- the store goes beyond the word: six instructions are done, and nothing of the seventh
pub record Beyond (o : Outcome) : Type 0 where
  pub number : o.result ≡ 13
  pub room : o.room ≡ 0 ∷ 0 ∷ 0 ∷ 13 ∷ 0 ∷ 0 ∷ 0 ∷ 6 ∷ 0 ∷ 0 ∷ 0 ∷ 9 ∷ []
  pub memory : o.memory ≡ word
  pub square : landed (at (registers_in o.state) 68) ≡ 0

pub record Clusters : Type 0 where
  pub passes : Passes table program
  pub valid : bad_state (words program) zeros ≡ false
  pub quiet : NothingInFlight zeros
  pub leaves : (landing : List ℕ) → Leaves (run_outcome (call longer landing))
  pub beyond : Beyond (run_outcome (call word []))
