-- The value of each operation, in opcode order: document 01, the table of opcodes. x is s1, y is s2, b the branch register.
use Rattle.std.specs.Prelude.{not, List, [], ◌∷◌, ◌++◌, ℕ, ◌+◌, ◌-◌, ◌*◌, ◌/◌, ◌%◌, ◌^◌, eqb, ltb, leb, get_or}
use Rattle.std.specs.Int.Bits.{bit_and, bit_or, bit_xor}
use Rattle.word.specs.Choice.{pick, bit}
use Rattle.word.specs.Widen.{widen}
use Rattle.meanings.specs.Arith.{wrap, inverse, below, shifted, low, high}

abbrev pub comparisons : ℕ → ℕ → List ℕ
comparisons x y =
    bit (eqb x y)  -- cmpeq
    ∷ bit (not (eqb x y))  -- cmpne
    ∷ bit (below x y)  -- cmplt
    ∷ bit (not (below y x))  -- cmple
    ∷ bit (below y x)  -- cmpgt
    ∷ bit (not (below x y))  -- cmpge
    ∷ bit (ltb x y)  -- cmpltu
    ∷ bit (leb x y)  -- cmpleu
    ∷ bit (ltb y x)  -- cmpgtu
    ∷ bit (leb y x)  -- cmpgeu
    ∷ []

abbrev pub values : ℕ → ℕ → ℕ → List ℕ
values x y b =
    0  -- 0: nop and stop have no value
    ∷ wrap (x + y)  -- 1 add
    ∷ wrap (y + (2 ^ 32 - x))  -- 2 sub: s2 minus s1
    ∷ bit_and x y  -- 3 and
    ∷ bit_and (inverse x) y  -- 4 andc: not s1, and s2
    ∷ bit_or x y  -- 5 or
    ∷ bit_or (inverse x) y  -- 6 orc: not s1, or s2
    ∷ bit_xor x y  -- 7 xor
    ∷ wrap (x * 2 ^ (y % 32))  -- 8 shl: s1 by the low five bits of s2
    ∷ shifted x (y % 32)  -- 9 shr, signed
    ∷ x / 2 ^ (y % 32)  -- 10 shru
    ∷ wrap (x * 2 ^ 1 + y)  -- 11 sh1add: s1 shifted left 1, plus s2
    ∷ wrap (x * 2 ^ 2 + y)  -- 12 sh2add
    ∷ wrap (x * 2 ^ 3 + y)  -- 13 sh3add
    ∷ wrap (x * 2 ^ 4 + y)  -- 14 sh4add
    ∷ pick (below x y) y x  -- 15 max
    ∷ pick (ltb x y) y x  -- 16 maxu
    ∷ pick (below x y) x y  -- 17 min
    ∷ pick (ltb x y) x y  -- 18 minu
    ∷ widen 8 x  -- 19 sxtb
    ∷ widen 16 x  -- 20 sxth
    ∷ x % 2 ^ 8  -- 21 zxtb
    ∷ x % 2 ^ 16  -- 22 zxth
    ∷ wrap (x + y + b)  -- 23 addcg, the sum
    ∷ wrap (widen 16 x * widen 16 y)  -- 24 mpyll
    ∷ low x * low y  -- 25 mpyllu
    ∷ wrap (widen 16 x * widen 16 (high y))  -- 26 mpylh
    ∷ low x * high y  -- 27 mpylhu
    ∷ wrap (widen 16 (high x) * widen 16 (high y))  -- 28 mpyhh
    ∷ high x * high y  -- 29 mpyhhu
    ∷ comparisons x y  -- 30-39, to a general register
    ++ (comparisons x y  -- 40-49, the same to a branch register
    ++ (pick (eqb b 1) x y  -- 50 slct: b = 1 gives s1, else s2
    ∷ pick (eqb b 1) y x  -- 51 slctf: the reverse
    ∷ []))

abbrev pub row : ℕ → ℕ → ℕ → ℕ → ℕ
row opcode x y b = get_or (values x y b) opcode 0

-- Shut: whoever stands above ops goes by the name, and by the bounds in proofs/Bounds.antt.
unfoldable pub value : ℕ → ℕ → ℕ → ℕ → ℕ
value opcode x y b = row opcode x y b

-- addcg's carry
unfoldable pub carry : ℕ → ℕ → ℕ → ℕ
carry x y b = (x + y + b) / 2 ^ 32

-- "the address is s1 plus the signed bits 11..0, modulo 2^32": the offset comes widened
unfoldable pub address : ℕ → ℕ → ℕ
address x offset = wrap (x + offset)

-- what a load makes of the number in the bytes it reads: ldh and ldb widen by sign, ldhu and ldbu with zeros, ldw keeps the word
unfoldable pub loaded : ℕ → ℕ → ℕ
loaded opcode v =
    pick (eqb opcode 53) (widen 16 v)
    (pick (eqb opcode 54) (v % 2 ^ 16) (pick (eqb opcode 55) (widen 8 v) (pick (eqb opcode 56) (v % 2 ^ 8) v)))

-- what a store keeps of the register: sth and stb the low bytes, stw the word
unfoldable pub stored : ℕ → ℕ → ℕ
stored opcode v = pick (eqb opcode 58) (v % 2 ^ 16) (pick (eqb opcode 59) (v % 2 ^ 8) v)
