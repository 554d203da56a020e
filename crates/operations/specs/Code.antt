-- Private to the code, nobody has to believe it: its own table, and what its steps say.
use Rattle.std.specs.Prelude.{◌≡◌, Bool, true, false, List, [], ◌∷◌, ◌++◌, map, ℕ, ◌+◌, ◌*◌, ◌-◌, ◌^◌, ◌≤◌, ◌<◌, eqb, ltb, length, take, drop, Option, Some, None}
use Rattle.std.specs.Option.{option_or}
use Rattle.word.specs.Choice.{pick}
use Rattle.tokens.specs.Tokens.{Token, letters, tokens}
use Rattle.expressions.specs.Reader.{Got, bad, got, map_got}
use Rattle.operations.specs.Table.{Field, Item, mark, link, general, branch, either, far, source, field, item_of}
use Rattle.operations.specs.Grammar.{Operand, Front}
use Rattle.operations.specs.Meaning.{Asked, asked, or_else, number_of, placed, asked_by, asked_in, asked_of, bits, Said}
use Rattle.operations.specs.Reader.{limit, first_register, after, read_item}
use Rattle.operations.specs.Parsed.{Asks, breadth, asked_at, Begins}
use Rattle.operations.specs.declared.Operation.{Operation}
use Rattle.operations.specs.declared.Register.{Register}
use Rattle.operations.specs.declared.Step.{Step}

-- 16 bytes a row: its name, and from byte 7 on the letters of its items, each up to a blank
unfoldable pub text : List ℕ
text =
    letters "nop             stop            call   l=k      return l        "
    ++ letters "add    t=1,s    sub    t=s,1    and    t=1,s    andc   t=1,s    "
    ++ letters "or     t=1,s    orc    t=1,s    xor    t=1,s    shl    t=1,s    "
    ++ letters "shr    t=1,s    shru   t=1,s    sh1add t=1,s    sh2add t=1,s    "
    ++ letters "sh3add t=1,s    sh4add t=1,s    max    t=1,s    maxu   t=1,s    "
    ++ letters "min    t=1,s    minu   t=1,s    sxtb   t=1      sxth   t=1      "
    ++ letters "zxtb   t=1      zxth   t=1      addcg  t,c=b,1,2mpyll  t=1,s    "
    ++ letters "mpyllu t=1,s    mpylh  t=1,s    mpylhu t=1,s    mpyhh  t=1,s    "
    ++ letters "mpyhhu t=1,s    cmpeq  e=1,s    cmpne  e=1,s    cmplt  e=1,s    "
    ++ letters "cmple  e=1,s    cmpgt  e=1,s    cmpge  e=1,s    cmpltu e=1,s    "
    ++ letters "cmpleu e=1,s    cmpgtu e=1,s    cmpgeu e=1,s    slct   t=b,1,2  "
    ++ letters "slctf  t=b,1,2  ldw    t=o[1]   ldh    t=o[1]   ldhu   t=o[1]   "
    ++ letters "ldb    t=o[1]   ldbu   t=o[1]   stw    o[1]=t   sth    o[1]=t   "
    ++ letters "stb    o[1]=t   copy   t=x      goto   g        br     d,j      "
    ++ letters "brf    d,j      mov    t=x      "

abbrev pub row_text : ℕ → List ℕ
row_text row = take 16 (drop (row * 16) text)

-- the letters of a row's items, and blanks
abbrev pub letters_at : ℕ → List ℕ
letters_at row = take 9 (drop (row * 16 + 7) text)

abbrev pub until_blank : List ℕ → List ℕ
until_blank [] = []
until_blank (b ∷ s) = pick (eqb b 32) [] (b ∷ until_blank s)

abbrev pub items_in : List ℕ → List Item
items_in s = map item_of (until_blank s)

-- the opcodes run along the rows but for 40 to 49, and mov's
abbrev pub base_of : ℕ → ℕ
base_of row = pick (ltb row 4) (row * 2 ^ 18) (pick (ltb row 43) ((row - 3) * 2 ^ 24) (pick (ltb row 57) ((row + 7) * 2 ^ 24) (60 * 2 ^ 24)))

abbrev pub front_of : ℕ → Option ℕ → Front
front_of c k = record { cluster = c; from = k }

-- a cluster, and the tokens after the place
abbrev pub numbered_by : List ℕ → Option (ℕ × ℕ) → Got ℕ
numbered_by line None = bad
numbered_by line (Some p) = got p.1 (tokens (drop p.0 line))

abbrev pub Onward : List ℕ → ℕ → Option (ℕ × ℕ) → Type 0
Onward line at None = Unit {0}
Onward line at (Some p) = (at < p.0) × (p.0 ≤ length line) × (p.1 < 4)

-- a register, and the place after it
abbrev pub Names : List ℕ → ℕ → Option (ℕ × Register) → Type 0
Names line at None = first_register (tokens (drop at line)) ≡ None
Names line at (Some p) =
    (first_register (tokens (drop at line)) ≡ Some p.1)
    × (after (tokens (drop at line)) ≡ tokens (drop p.0 line))
    × (at < p.0)
    × (p.0 ≤ length line)
    × (p.1.cluster < 4)
    × (p.1.number < limit p.1.letter)

-- what an item does to the syllable
pub record Effect : Type 0 where
  pub adds : ℕ
  pub asks : Asked

abbrev pub effect : Item → Operand → Effect
effect i o = record { adds = placed i o; asks = asked_by i o }

-- a register's number, from a bit on
abbrev pub scaled : ℕ → Operand → Effect
scaled scale o = record { adds = number_of o * scale; asks = Asked.none }

-- an expression in its field
abbrev pub in_place : ℕ → Field → Operand → Effect
in_place adds f o = record { adds = adds; asks = asked_in f o }

abbrev pub step_by : List ℕ → Option Step → Got Effect
step_by line None = bad
step_by line (Some s) = got (record { adds = s.adds; asks = asked_at line s.asks }) (tokens (drop s.to line))

abbrev pub is_asked : Asked → Bool
is_asked Asked.none = false
is_asked (asked f e) = true

-- where there is a field there is an expression
abbrev pub firm : List ℕ → Asks → Bool
firm line None = true
firm line (Some a) = is_asked (asked_at line (Some a))

-- the places are in the line, and what is added is at most `most`, with any value of the field
abbrev pub Within : List ℕ → ℕ → ℕ → Option Step → Type 0
Within line at most None = Unit {0}
Within line at most (Some s) =
    (at < s.to) × (s.to ≤ length line) × Begins line s.asks × (s.adds + breadth s.asks ≤ most + 1) × (firm line s.asks ≡ true)

abbrev pub Steps : List ℕ → ℕ → (List Token → Got Operand) → (Operand → Effect) → ℕ → Option Step → Type 0
Steps line at read eff most r = (step_by line r ≡ map_got eff (read (tokens (drop at line)))) × Within line at most r

-- the most that an item adds
abbrev pub most : Item → ℕ
most (mark m) = 0
most link = 0
most (general p) = 63 * 2 ^ p
most (branch p) = 7 * 2 ^ p
most either = 63 * 2 ^ 18 + 10 * 2 ^ 24
most far = 63 * 2 ^ 12 + 3
most source = 2 ^ 12 - 1
most (field f) = 2 ^ f.width - 1

abbrev pub most_of : List Item → ℕ
most_of [] = 0
most_of (i ∷ is) = most i + most_of is

abbrev pub StepsAs : List ℕ → ℕ → Front → Item → Option Step → Type 0
StepsAs line at front i = Steps line at (read_item front i) (effect i) (most i)

-- an item's effect after what was gathered; the first expression counts
abbrev pub joined_by : Operation → Step → Operation
joined_by o s = record { cluster = o.cluster; bits = o.bits + s.adds; asks = option_or o.asks s.asks }

-- what more operands say after what was gathered
abbrev pub sums : Said → List Item → List Operand → Said
sums s is os = record { cluster = s.cluster; bits = s.bits + bits is os; asks = or_else s.asks (asked_of is os) }

-- what operands say after a row's bits
abbrev pub said_from : ℕ → ℕ → List Item → List Operand → Said
said_from cluster base is os = record { cluster = cluster; bits = base + bits is os; asks = asked_of is os }

abbrev pub Gathered : List ℕ → ℕ → ℕ → Option (ℕ × Operation) → Type 0
Gathered line at cluster None = Unit {0}
Gathered line at cluster (Some p) =
    (at ≤ p.0) × (p.0 ≤ length line) × Begins line p.1.asks × (p.1.cluster ≡ cluster) × (p.1.bits + breadth p.1.asks ≤ 2 ^ 30)
