-- The whole output of the text program, for any input.
use Rattle.std.specs.Prelude.{◌||◌, List, [], ◌++◌, ℕ, eqb, ltb, replicate, Err}
use Rattle.arrayvec.specs.ArrayVec.{ArrayVec}
use Rattle.word.specs.Choice.{pick}
use Rattle.word.specs.Bytes.{word_at}
use Rattle.refusals.specs.Broken.{bad_program_length}
use Rattle.loader.specs.Load.{Loaded, ◌otherwise◌, refused_if, loaded_with}
use Rattle.loader.specs.Answer.{answer, load_answer}
use Rattle.loader.specs.declared.Answer.{Answer}
use Rattle.loader.specs.declared.Refusal.TheVariants.{ProgramLength, MemoryLength}
use Rattle.call.specs.Run.{Call, Outcome, run_outcome}
use Rattle.lines.specs.declared.reading.Text.{Text}
use Rattle.lines.specs.Lines.{Said, Read, Bad, Good, read_text}
use Rattle.text.specs.Rows.{answer_row, register_rows}

-- what an input comes to: a line that is bad or missing, a refusal, or a run
pub data Ending : Type 0 where
  Unread : ℕ → Ending
  Loads : Loaded → Ending
  Runs : Outcome → Ending

-- the paper's number, count and place of each
abbrev pub ending_answer : Ending → Answer
ending_answer (Unread line) = answer 16 0 line
ending_answer (Loads l) = load_answer l
ending_answer (Runs o) = answer o.result (word_at 4 o.room) (word_at 8 o.room)

-- "A refusal or fault prints line 1 only"
abbrev pub ending_rows : Ending → List ℕ
ending_rows (Unread line) = []
ending_rows (Loads l) = []
ending_rows (Runs o) = pick (eqb o.result 0 || eqb o.result 255) (register_rows o.state) []

abbrev pub said_in : Text → Said
said_in t = record { table = t.table.items; memory = t.memory; n = t.n; program = t.program.items }

-- "Memory length, filled with zero. No landing bytes; start at 0, all zero."
abbrev pub call_of : Said → Call
call_of s =
    record {
      table = s.table;
      program = s.program;
      state = replicate 2888 0;
      memory = replicate s.memory 0;
      landing = [];
      n = s.n;
      room = replicate 12 0;
    }

-- "Memory length, here at most 16,384 (else 2, place 1)": after 1 and "No fourth line is 2, place 0", before all else
abbrev pub too_much : List ℕ → List ℕ → Loaded
too_much table program = loaded_with (refused_if (bad_program_length program) ProgramLength otherwise Err MemoryLength) table program

abbrev pub ending_of : Read → Ending
ending_of (Bad line) = Unread line
ending_of (Good s) = pick (ltb 16384 s.memory) (Loads (too_much s.table s.program)) (Runs (run_outcome (call_of s)))

unfoldable pub printed_of : Ending → List ℕ
printed_of e = answer_row (ending_answer e) ++ ending_rows e

unfoldable pub printed : List ℕ → List ℕ
printed text = printed_of (ending_of (read_text text))

-- the output in a room of 4,341 bytes, line 1 and one line for each of 288 registers
abbrev pub shown_of : List ℕ → ArrayVec ℕ
shown_of text = record { items = printed text }
