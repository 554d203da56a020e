-- Document 01, "Syllables and instructions": the fields of a syllable, and what its opcode asks for.
use Rattle.std.specs.Prelude.{Bool, ◌||◌, ◌&&◌, ℕ, suc, ◌-◌, ◌/◌, ◌%◌, ◌^◌, eqb, leb}
use Rattle.word.specs.Choice.{pick}
use Rattle.isa.specs.declared.Format.{Format}
use Rattle.isa.specs.declared.Format.TheVariants.{Still, Two, One, Carry, Test, Select, Load, Store, Copy, Jump, Fork}

-- bits hi..lo of a syllable
abbrev pub bits : ℕ → ℕ → ℕ → ℕ
bits hi lo s = s / 2 ^ lo % 2 ^ (suc hi - lo)

-- "Bit 31 ends an instruction, bit 30 starts a cluster, bits 29..24 are the opcode."
abbrev pub ends : ℕ → Bool
ends s = eqb (bits 31 31 s) 1

abbrev pub opens : ℕ → Bool
opens s = eqb (bits 30 30 s) 1

abbrev pub opcode : ℕ → ℕ
opcode s = bits 29 24 s

-- "copy to t from s1 of the cluster in bits 1..0"
abbrev pub source : ℕ → ℕ
source s = bits 1 0 s

-- the form of an opcode: what its fields are
unfoldable pub format_of : ℕ → Format
format_of o =
    pick (eqb o 0) Still  -- 0 nop, stop
    (pick (leb o 18) Two  -- 1-18: t, s1, and s2 as a register or a number
    (pick (leb o 22) One  -- 19-22: t, s1
    (pick (leb o 23) Carry  -- 23: t, s1, s2, b and a branch destination
    (pick (leb o 39) Two  -- 24-39
    (pick (leb o 49) Test  -- 40-49: a branch destination, s1, s2
    (pick (leb o 51) Select  -- 50, 51: t, s1, s2, b
    (pick (leb o 56) Load  -- 52-56
    (pick (leb o 59) Store  -- 57-59
    (pick (leb o 60) Copy  -- 60
    (pick (leb o 61) Jump Fork))))))))))  -- 61; 62, 63

-- "ALU: 1-23 and 30-51. MUL: 24-29. MEM: 52-59. COPY: 60.", of an opcode
abbrev pub within : ℕ → ℕ → ℕ → Bool
within first last o = leb first o && leb o last

abbrev pub is_alu : ℕ → Bool
is_alu o = within 1 23 o || within 30 51 o

abbrev pub is_mul : ℕ → Bool
is_mul o = within 24 29 o

abbrev pub is_mem : ℕ → Bool
is_mem o = within 52 59 o

abbrev pub is_copy : ℕ → Bool
is_copy o = eqb o 60
