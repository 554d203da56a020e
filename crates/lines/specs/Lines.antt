-- The lines of a text: "Standard input, upper case, newline after each line, at least one item, single blanks between; two digits a byte,
-- eight any other number."
use Rattle.std.specs.Prelude.{Bool, true, false, not, ◌&&◌, List, [], ◌∷◌, ◌++◌, map, ℕ, suc, eqb, ltb, length}
use Rattle.word.specs.Choice.{pick}
use Rattle.word.specs.Bytes.{bytes}
use Rattle.isa.specs.Syllable.{ends}
use Rattle.lines.specs.Digits.{is_digit, number_of}

abbrev pub newline : ℕ
newline = 10

abbrev pub blank : ℕ
blank = 32

abbrev pub cut : Bool → ℕ → List (List ℕ) → List (List ℕ)
cut true b ps = [] ∷ ps
cut false b [] = (b ∷ []) ∷ []
cut false b (p ∷ ps) = (b ∷ p) ∷ ps

-- what stands between the separators; after a separator at the end an empty piece
abbrev pub pieces : ℕ → List ℕ → List (List ℕ)
pieces separator [] = [] ∷ []
pieces separator (b ∷ l) = cut (eqb b separator) b (pieces separator l)

abbrev pub every : {A : Type 0} → (A → Bool) → List A → Bool
every f [] = true
every f (x ∷ xs) = f x && every f xs

-- an item: so many digits
abbrev pub is_number : ℕ → List ℕ → Bool
is_number digits item = eqb (length item) digits && every is_digit item

abbrev pub are_items : ℕ → List ℕ → Bool
are_items digits line = every (is_number digits) (pieces blank line)

abbrev pub items_of : List ℕ → List ℕ
items_of line = map number_of (pieces blank line)

-- the first of the lines: the numbers it holds, and the lines after it; what no newline follows is no line
pub data Line : Type 0 where
  Broken : Line
  Holds : List ℕ → List (List ℕ) → Line

abbrev pub first_line : ℕ → List (List ℕ) → Line
first_line digits [] = Broken
first_line digits (rest ∷ []) = Broken
first_line digits (line ∷ next ∷ lines) = pick (are_items digits line) (Holds (items_of line) (next ∷ lines)) Broken

-- "one instruction a line, bit 31 set on its last syllable only"
abbrev pub ends_once : List ℕ → Bool
ends_once [] = false
ends_once (w ∷ []) = ends w
ends_once (w ∷ v ∷ ws) = not (ends w) && ends_once (v ∷ ws)

abbrev pub word_bytes : List ℕ → List ℕ
word_bytes [] = []
word_bytes (w ∷ ws) = bytes 4 w ++ word_bytes ws

-- the program's bytes, or the lowest line that is bad
pub data Program : Type 0 where
  BadLine : ℕ → Program
  Code : List ℕ → Program

infixr 20 ◌before◌
abbrev pub ◌before◌ : List ℕ → Program → Program
program before BadLine i = BadLine i
program before Code more = Code (program ++ more)

-- the lines from line i on, an instruction each
abbrev pub program_from : ℕ → List (List ℕ) → Program
program_from i [] = Code []
program_from i ([] ∷ []) = Code []
program_from i ((b ∷ rest) ∷ []) = BadLine i
program_from i (line ∷ next ∷ lines) =
    let more = program_from (suc i) (next ∷ lines) in
    pick (are_items 8 line && ends_once (items_of line)) (word_bytes (items_of line) before more) (BadLine i)

-- what the lines say, or the lowest line that is bad or missing, from 1
pub record Said : Type 0 where
  pub table : List ℕ
  pub memory : ℕ
  pub n : ℕ
  pub program : List ℕ

pub data Read : Type 0 where
  Bad : ℕ → Read
  Good : Said → Read

-- "Line 1: table bytes. Line 2: memory length. Line 3: n. Then one instruction a line."
-- "Anything else is 16; a line missing among the first three counts under its own number."
abbrev pub from_program : List ℕ → ℕ → ℕ → Program → Read
from_program table memory n (BadLine i) = Bad i
from_program table memory n (Code program) = Good (record { table = table; memory = memory; n = n; program = program })

abbrev pub from_third : List ℕ → ℕ → Line → Read
from_third table memory Broken = Bad 3
from_third table memory (Holds [] lines) = Bad 3
from_third table memory (Holds (n ∷ []) lines) = from_program table memory n (program_from 4 lines)
from_third table memory (Holds (n ∷ m ∷ more) lines) = Bad 3

abbrev pub from_second : List ℕ → Line → Read
from_second table Broken = Bad 2
from_second table (Holds [] lines) = Bad 2
from_second table (Holds (memory ∷ []) lines) = from_third table memory (first_line 8 lines)
from_second table (Holds (memory ∷ m ∷ more) lines) = Bad 2

abbrev pub from_first : Line → Read
from_first Broken = Bad 1
from_first (Holds table lines) = from_second table (first_line 8 lines)

-- place "0 if over 32,768 bytes"
unfoldable pub read_text : List ℕ → Read
read_text text = pick (ltb 32768 (length text)) (Bad 0) (from_first (first_line 2 (pieces newline text)))
