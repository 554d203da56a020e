-- The operations: each name, what it puts into the syllable, and what is written after it. One table, for reading and for writing.
use Rattle.std.specs.Prelude.{List, [], ◌∷◌, map, ℕ, ◌*◌, ◌^◌, eqb, get_or}
use Prim.Native.String.{String}
use Rattle.word.specs.Choice.{pick}
use Rattle.tokens.specs.Tokens.{letters}

-- an expression's field: its values are from -below to 2^width - 1 - below
pub record Field : Type 0 where
  pub below : ℕ
  pub width : ℕ

-- "an immediate -1,024 to 1,023, an offset -2,048 to 2,047, a target 0 to 2^24 - 1 for goto, 2^21 - 1 for br and brf, 2^18 - 1 for call"
abbrev pub immediate : Field
immediate = record { below = 1024; width = 11 }

abbrev pub offset : Field
offset = record { below = 2048; width = 12 }

abbrev pub target : ℕ → Field
target width = record { below = 0; width = width }

-- what may stand in an operation after its name
pub data Item : Type 0 where
  -- a mark, by its byte; `$l0.0`
  mark : ℕ → Item
  link : Item
  -- a general or a branch register of the operation's cluster, whose number goes to the bits from p up
  general : ℕ → Item
  branch : ℕ → Item
  -- "the destination decides between 30-39 and 40-49": a general or a branch register, from bit 18 up
  either : Item
  -- copy's source: a general register of any cluster
  far : Item
  -- the second source: a general register or an immediate
  source : Item
  -- an expression in its field
  field : Field → Item

-- The items of an operation are written down as letters: `=` `,` `[` `]` are themselves, `t` `1` `2` the registers t, s1 and s2, `b` `c` `d` the
-- branch registers b, addcg's destination and the one that is tested, `e` either, `x` copy's source, `s` the second source, `l` the link,
-- `o` an offset, `g` `j` `k` the targets of goto, of br and brf, and of call.
abbrev pub item_of : ℕ → Item
item_of i =
    pick (eqb i 116) (general 18)
    (pick (eqb i 49) (general 12)
    (pick (eqb i 50) (general 0)
    (pick (eqb i 98) (branch 9)
    (pick (eqb i 99) (branch 6)
    (pick (eqb i 100) (branch 21)
    (pick (eqb i 101) either
    (pick (eqb i 120) far
    (pick (eqb i 115) source
    (pick (eqb i 108) link
    (pick (eqb i 111) (field offset)
    (pick (eqb i 103) (field (target 24))
    (pick (eqb i 106) (field (target 21))
    (pick (eqb i 107) (field (target 18)) (mark i))))))))))))))

pub record Row : Type 0 where
  pub name : List ℕ
  -- opcode * 2^24, and opcode 0's number * 2^18
  pub base : ℕ
  pub items : List Item

abbrev coded : ℕ → String → String → Row
coded base name items = record { name = letters name; base = base; items = map item_of (letters items) }

abbrev row : ℕ → String → String → Row
row opcode = coded (opcode * 2 ^ 24)

-- opcode 0, by its number
abbrev still : ℕ → String → String → Row
still number = coded (number * 2 ^ 18)

unfoldable pub table : List Row
table =
    still 0 "nop" "" ∷ still 1 "stop" "" ∷ still 2 "call" "l=k" ∷ still 3 "return" "l"
    ∷ row 1 "add" "t=1,s" ∷ row 2 "sub" "t=s,1" ∷ row 3 "and" "t=1,s" ∷ row 4 "andc" "t=1,s" ∷ row 5 "or" "t=1,s" ∷ row 6 "orc" "t=1,s" ∷ row 7 "xor" "t=1,s"
    ∷ row 8 "shl" "t=1,s" ∷ row 9 "shr" "t=1,s" ∷ row 10 "shru" "t=1,s"
    ∷ row 11 "sh1add" "t=1,s" ∷ row 12 "sh2add" "t=1,s" ∷ row 13 "sh3add" "t=1,s" ∷ row 14 "sh4add" "t=1,s"
    ∷ row 15 "max" "t=1,s" ∷ row 16 "maxu" "t=1,s" ∷ row 17 "min" "t=1,s" ∷ row 18 "minu" "t=1,s"
    ∷ row 19 "sxtb" "t=1" ∷ row 20 "sxth" "t=1" ∷ row 21 "zxtb" "t=1" ∷ row 22 "zxth" "t=1"
    ∷ row 23 "addcg" "t,c=b,1,2"
    ∷ row 24 "mpyll" "t=1,s" ∷ row 25 "mpyllu" "t=1,s" ∷ row 26 "mpylh" "t=1,s" ∷ row 27 "mpylhu" "t=1,s" ∷ row 28 "mpyhh" "t=1,s" ∷ row 29 "mpyhhu" "t=1,s"
    ∷ row 30 "cmpeq" "e=1,s" ∷ row 31 "cmpne" "e=1,s" ∷ row 32 "cmplt" "e=1,s" ∷ row 33 "cmple" "e=1,s" ∷ row 34 "cmpgt" "e=1,s" ∷ row 35 "cmpge" "e=1,s"
    ∷ row 36 "cmpltu" "e=1,s" ∷ row 37 "cmpleu" "e=1,s" ∷ row 38 "cmpgtu" "e=1,s" ∷ row 39 "cmpgeu" "e=1,s"
    ∷ row 50 "slct" "t=b,1,2" ∷ row 51 "slctf" "t=b,1,2"
    ∷ row 52 "ldw" "t=o[1]" ∷ row 53 "ldh" "t=o[1]" ∷ row 54 "ldhu" "t=o[1]" ∷ row 55 "ldb" "t=o[1]" ∷ row 56 "ldbu" "t=o[1]"
    ∷ row 57 "stw" "o[1]=t" ∷ row 58 "sth" "o[1]=t" ∷ row 59 "stb" "o[1]=t"
    ∷ row 60 "copy" "t=x" ∷ row 61 "goto" "g" ∷ row 62 "br" "d,j" ∷ row 63 "brf" "d,j"
    ∷ row 60 "mov" "t=x" ∷ []

abbrev pub row_at : ℕ → Row
row_at r = get_or table r (record { name = []; base = 0; items = [] })

-- "the manual's `c1=c0 mov $r1.4 = $r0.3`": the table's last row is the one that is written with two clusters
abbrev pub moves : ℕ
moves = 57
