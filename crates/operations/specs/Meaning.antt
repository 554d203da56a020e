-- What an operation says: its cluster, the bits of its syllable that name, number and registers fill, and the expression that fills the rest.
use Rattle.std.specs.Prelude.{Bool, true, false, ◌&&◌, List, [], ◌∷◌, ℕ, ◌+◌, ◌*◌, ◌%◌, ◌^◌, eqb, leb, ltb, Result, Ok, Err}
use Rattle.word.specs.Choice.{pick}
use Rattle.values.specs.Values.{Value, half}
use Rattle.values.specs.declared.Fault.{Fault}
use Rattle.values.specs.declared.Fault.TheVariants.{Outside}
use Rattle.expressions.specs.Grammar.{Expression}
use Rattle.expressions.specs.Meaning.{value_e}
use Rattle.operations.specs.Table.{Field, immediate, Item, mark, link, general, branch, either, far, source, field, row_at}
use Rattle.operations.specs.Grammar.{Operand, nothing, register, value, Operation, b}

abbrev pub letter_of : Operand → ℕ
letter_of nothing = 0
letter_of (register letter c n) = letter
letter_of (value e) = 0

abbrev pub cluster_of : Operand → ℕ
cluster_of nothing = 0
cluster_of (register letter c n) = c
cluster_of (value e) = 0

abbrev pub number_of : Operand → ℕ
number_of nothing = 0
number_of (register letter c n) = n
number_of (value e) = 0

abbrev pub is_value : Operand → Bool
is_value nothing = false
is_value (register letter c n) = false
is_value (value e) = true

-- what an item adds to the syllable, but for an expression's value
abbrev pub placed : Item → Operand → ℕ
placed (mark m) o = 0
placed link o = 0
placed (general p) o = number_of o * 2 ^ p
placed (branch p) o = number_of o * 2 ^ p
-- "40-49: the same to a branch register, number in bits 20..18"
placed either o = number_of o * 2 ^ 18 + pick (eqb (letter_of o) b) (10 * 2 ^ 24) 0
-- "copy to t from s1 of the cluster in bits 1..0"
placed far o = number_of o * 2 ^ 12 + cluster_of o
-- "bit 11 clear means s2 is register bits 5..0; bit 11 set means s2 is bits 10..0"
placed source o = pick (is_value o) (2 ^ 11) (number_of o)
placed (field f) o = 0

abbrev pub bits : List Item → List Operand → ℕ
bits [] os = 0
bits (i ∷ is) [] = 0
bits (i ∷ is) (o ∷ os) = placed i o + bits is os

-- the expression of an operation, with its field; none has two
pub data Asked : Type 0 where
  none : Asked
  asked : Field → Expression → Asked

abbrev pub or_else : Asked → Asked → Asked
or_else none a = a
or_else (asked f e) a = asked f e

abbrev pub asked_in : Field → Operand → Asked
asked_in f nothing = none
asked_in f (register letter c n) = none
asked_in f (value e) = asked f e

abbrev pub asked_by : Item → Operand → Asked
asked_by (mark m) o = none
asked_by link o = none
asked_by (general p) o = none
asked_by (branch p) o = none
asked_by either o = none
asked_by far o = none
asked_by source o = asked_in immediate o
asked_by (field f) o = asked_in f o

abbrev pub asked_of : List Item → List Operand → Asked
asked_of [] os = none
asked_of (i ∷ is) [] = none
asked_of (i ∷ is) (o ∷ os) = or_else (asked_by i o) (asked_of is os)

pub record Said : Type 0 where
  pub cluster : ℕ
  pub bits : ℕ
  pub asks : Asked

abbrev pub said : Operation → Said
said o =
    let row = row_at o.row in
    record { cluster = o.front.cluster; bits = row.base + bits row.items o.operands; asks = asked_of row.items o.operands }

-- a syllable without bits 31 and 30, or why there is none
abbrev pub Syllable : Type 0
Syllable = Result ℕ Fault

-- "So is a value outside its field": the low bits of a value inside it. `Ok n` is the whole number n - 2^31
abbrev pub in_field : ℕ → Field → Value → Syllable
in_field bits f (Ok n) = pick (leb half (n + f.below) && ltb (n + f.below) (half + 2 ^ f.width)) (Ok (bits + n % 2 ^ f.width)) (Err Outside)
in_field bits f (Err w) = Err w

abbrev pub filled : (List ℕ → Value) → ℕ → Asked → Syllable
filled env bits none = Ok bits
filled env bits (asked f e) = in_field bits f (value_e env e)

-- the syllable of an operation
abbrev pub syllable_of : (List ℕ → Value) → Said → Syllable
syllable_of env s = filled env s.bits s.asks
