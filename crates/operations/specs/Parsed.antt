-- Private to the code, nobody has to believe it: what it finds at a place of a line.
use Rattle.std.specs.Prelude.{List, ℕ, suc, ◌+◌, ◌^◌, ◌≤◌, ◌<◌, length, drop, Option, Some, None}
use Rattle.tokens.specs.Tokens.{tokens}
use Rattle.expressions.specs.Grammar.{Expression}
use Rattle.expressions.specs.Reader.{Got, bad, got, read_e}
use Rattle.operations.specs.Table.{Field, immediate, offset, target}
use Rattle.operations.specs.Meaning.{Asked, none, asked, Said}
use Rattle.operations.specs.declared.Field as code
use Rattle.operations.specs.declared.Field.TheVariants.{Immediate, Offset, Goto, Branch, Call}
use Rattle.operations.specs.declared.Operation.{Operation}

abbrev pub field_of : code.Field → Field
field_of Immediate = immediate
field_of Offset = offset
field_of Goto = target 24
field_of Branch = target 21
field_of Call = target 18

-- an expression's field, and where it begins
abbrev pub Asks : Type 0
Asks = Option (code.Field × ℕ)

-- how many values an expression's field has
abbrev pub breadth : Asks → ℕ
breadth None = 1
breadth (Some a) = 2 ^ (field_of a.0).width

abbrev pub asked_for : Field → Got Expression → Asked
asked_for f bad = none
asked_for f (got e rest) = asked f e

-- the expression that begins at a place
abbrev pub asked_at : List ℕ → Asks → Asked
asked_at line None = none
asked_at line (Some a) = asked_for (field_of a.0) (read_e 16 (tokens (drop a.1 line)))

abbrev pub said_by : List ℕ → Operation → Said
said_by line o = record { cluster = o.cluster; bits = o.bits; asks = asked_at line o.asks }

abbrev pub told : List ℕ → Option (ℕ × Operation) → Got Said
told line None = bad
told line (Some p) = got (said_by line p.1) (tokens (drop p.0 line))

-- an expression begins in the line
abbrev pub Begins : List ℕ → Asks → Type 0
Begins line None = Unit {0}
Begins line (Some a) = a.1 ≤ length line

-- the places are in the line, and the numbers in their fields; with any value of the expression's field the bits stay below 2^30
abbrev pub Kept : List ℕ → ℕ → Option (ℕ × Operation) → Type 0
Kept line at None = Unit {0}
Kept line at (Some p) =
    (suc at < p.0) × (p.0 ≤ length line) × Begins line p.1.asks × (p.1.cluster < 4) × (p.1.bits < 2 ^ 30) × (p.1.bits + breadth p.1.asks ≤ 2 ^ 30)
