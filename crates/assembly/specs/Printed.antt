-- The whole output of the program assemble, for any input: a program as the text program reads it, or the answer of a refusal.
use Rattle.std.specs.Prelude.{List, [], ◌∷◌, ◌++◌, ℕ, eqb, ltb, length, take, replicate}
use Rattle.arrayvec.specs.ArrayVec.{ArrayVec}
use Rattle.word.specs.Choice.{pick}
use Rattle.word.specs.Bytes.{word_at, words}
use Rattle.isa.specs.Syllable.{ends}
use Rattle.loader.specs.Answer.{answer}
use Rattle.lines.specs.Lines.{blank, newline}
use Rattle.assembler.specs.Answer.{Outcome, assemble_outcome}
use Rattle.text.specs.Rows.{field, answer_row}

-- "one instruction a line, bit 31 set on its last syllable only"
abbrev pub behind : ℕ → ℕ
behind s = pick (ends s) newline blank

abbrev pub syllable_rows : List ℕ → List ℕ
syllable_rows [] = []
syllable_rows (s ∷ ss) = field 8 s (behind s) ++ syllable_rows ss

-- where nothing is refused, the count is that of the syllables
unfoldable pub printed_by : Outcome → List ℕ
printed_by o =
    pick (eqb o.result 0) (syllable_rows (take (word_at 4 o.room) (words o.program)))
    (answer_row (answer o.result (word_at 4 o.room) (word_at 8 o.room)))

-- 16, place 0, for more than 262,144 bytes; a program has at most 4,096 syllables
unfoldable pub printed : List ℕ → List ℕ
printed text =
    pick (ltb 262144 (length text)) (answer_row (answer 16 0 0)) (printed_by (assemble_outcome text (replicate 16384 0) (replicate 12 0)))

-- the output in a room of 36,864 bytes, nine for each of 4,096 syllables
abbrev pub printed_in : List ℕ → ArrayVec ℕ
printed_in text = record { items = printed text }
