-- Private to the reading, nobody has to believe it: what the code finds at the start of a text, an item of so many digits, and the blank or the newline after it.
use Rattle.std.specs.Prelude.{◌&&◌, ◌||◌, List, [], ◌∷◌, ℕ, eqb, ltb, length, get_or, take, Option, None, Some, Result, Ok, Err}
use Rattle.word.specs.Choice.{pick}
use Rattle.isa.specs.Syllable.{ends}
use Rattle.lines.specs.Digits.{is_digit, number_from, number_of}
use Rattle.lines.specs.Lines as lines
use Rattle.lines.specs.Lines.{newline, blank, every, Line, Holds, Broken, Program, Code, Said, Read}
use Rattle.lines.specs.declared.items.Item.{Item}
use Rattle.lines.specs.declared.items.Item.TheVariants.{Inner, Last}
use Rattle.lines.specs.declared.reading.BadLine.{BadLine}
use Rattle.lines.specs.declared.reading.Text.{Text}

abbrev pub number_in : List ℕ → Option ℕ
number_in item = pick (every is_digit item) (Some (number_of item)) None

abbrev pub followed : ℕ → ℕ → Option Item
followed b v = pick (eqb b blank) (Some (Inner v)) (pick (eqb b newline) (Some (Last v)) None)

-- k digits more, after what was read before them
abbrev pub item_from : ℕ → ℕ → List ℕ → Option Item
item_from k v text = pick (ltb k (length text) && every is_digit (take k text)) (followed (get_or text k 0) (number_from v (take k text))) None

unfoldable pub item_at : ℕ → List ℕ → Option Item
item_at digits text = item_from digits 0 text

-- a syllable: bit 31 before a newline only, and more of the text after a blank
abbrev pub judged : List ℕ → Option Item → Option Item
judged text None = None
judged text (Some (Inner w)) = pick (ends w || eqb (length text) 9) None (Some (Inner w))
judged text (Some (Last w)) = pick (ends w) (Some (Last w)) None

unfoldable pub syllable_at : List ℕ → Option Item
syllable_at text = judged text (item_at 8 text)

abbrev pub value_of : Item → ℕ
value_of (Inner v) = v
value_of (Last v) = v

-- a line of one number, and no other
abbrev pub single : Line → Line
single Broken = Broken
single (Holds [] lines) = Broken
single (Holds (n ∷ []) lines) = Holds (n ∷ []) lines
single (Holds (n ∷ m ∷ more) lines) = Broken

-- what the code's answers say
abbrev pub program_held : Result (Unit {0}) BadLine → List ℕ → Program
program_held (Err e) program = lines.BadLine e.0
program_held (Ok u) program = Code program

abbrev pub lines_held : Result (ℕ × ℕ) BadLine → List ℕ → List ℕ → Read
lines_held (Err e) table program = lines.Bad e.0
lines_held (Ok p) table program = lines.Good (record { table = table; memory = p.0; n = p.1; program = program })

abbrev pub reading_in : Result (Unit {0}) BadLine → Text → Result Text BadLine
reading_in (Err e) t = Err e
reading_in (Ok u) t = Ok t

abbrev pub reading_of : Read → Result Text BadLine
reading_of (lines.Bad i) = Err (record { 0 = i })
reading_of (lines.Good s) =
    Ok (record { table = record { items = s.table }; memory = s.memory; n = s.n; program = record { items = s.program } })
