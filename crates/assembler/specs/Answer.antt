-- What the entry answers, and what it leaves.
use Rattle.std.specs.Prelude.{Bool, ◌||◌, List, ℕ, ◌+◌, ◌/◌, eqb, ltb, length}
use Rattle.std.proofs.lemmas.List.Edits.{sets}
use Rattle.word.specs.Choice.{pick}
use Rattle.lines.specs.Lines.{word_bytes}
use Rattle.loader.specs.Answer.{answer, room_with}
use Rattle.loader.specs.declared.Answer.{Answer}
use Rattle.source.specs.Heard.{Heard}
use Rattle.source.specs.Reader.{hear_all}
use Rattle.assembler.specs.Faults.{verdict, Verdict, Sound, Fault}
use Rattle.assembler.specs.Program.{program}

-- "no syllable, more than 4,096, or more than the lent room holds": "as many syllables as it has whole words"
abbrev pub unfit : ℕ → ℕ → Bool
unfit n bytes = eqb n 0 || ltb 4096 n || ltb (bytes / 4) n

-- "18, 19, 20 with the line", from 1; "then 2, place 0, and last 2, place 3, for a room that is not of 12 bytes"; n are the syllables
abbrev pub answer_to : Verdict → ℕ → ℕ → ℕ → Answer
answer_to (Fault i k) n bytes room = answer k 0 (i + 1)
answer_to (Sound m) n bytes room = pick (unfit n bytes) (answer 2 0 0) (pick (eqb room 12) (answer 0 n 0) (answer 2 0 3))

-- "A refusal writes nothing"; "what is behind the syllables stays as it was"
abbrev pub written : Answer → List ℕ → List ℕ → List ℕ
written a syllables lent = pick (eqb a.number 0) (sets lent 0 (word_bytes syllables)) lent

pub record Assembled : Type 0 where
  pub answer : Answer
  pub program : List ℕ

abbrev pub heard_to : List Heard → List ℕ → ℕ → Assembled
heard_to hs lent room =
    let a = answer_to (verdict hs) (length (program hs)) (length lent) room in
    record { answer = a; program = written a (program hs) lent }

-- a text, the bytes lent for the program, and how many bytes the room has
unfoldable pub assembled : List ℕ → List ℕ → ℕ → Assembled
assembled text lent room = heard_to (hear_all text) lent room

-- all that a call leaves
pub record Outcome : Type 0 where
  pub result : ℕ
  pub program : List ℕ
  pub room : List ℕ

abbrev pub assemble_outcome : List ℕ → List ℕ → List ℕ → Outcome
assemble_outcome text lent room =
    let a = assembled text lent (length room) in
    record { result = a.answer.number; program = a.program; room = room_with a.answer room }
