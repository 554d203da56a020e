-- What a syllable in cluster c asks for. No delay table is asked.
use Rattle.std.specs.Prelude.{ℕ, eqb}
use Rattle.word.specs.Choice.{pick}
use Rattle.word.specs.Widen.{widen}
use Rattle.isa.specs.Syllable.{bits, opcode, source, format_of}
use Rattle.isa.specs.Register.{general, branch}
use Rattle.isa.specs.Control.{way_as}
use Rattle.isa.specs.declared.Op.{Op}
use Rattle.isa.specs.declared.Way.TheVariants.{Along}
use Rattle.isa.specs.declared.Format.{Format}
use Rattle.isa.specs.declared.Format.TheVariants.{Still, Two, One, Carry, Test, Select, Load, Store, Copy, Jump, Fork}

-- "bit 11 set means s2 is bits 10..0, signed, -1,024 to 1,023, widened by sign"
abbrev pub immediate_of : ℕ → ℕ
immediate_of s = widen 11 (bits 10 0 s)

-- "the signed bits 11..0"
abbrev pub offset_of : ℕ → ℕ
offset_of s = widen 12 (bits 11 0 s)

module _ (c s : ℕ) where
  abbrev o : ℕ
  o = opcode s

  -- "t is bits 23..18, s1 bits 17..12"; s2 as a register, and b
  abbrev t : ℕ
  t = general c (bits 23 18 s)

  abbrev s1 : ℕ
  s1 = general c (bits 17 12 s)

  abbrev s2 : ℕ
  s2 = general c (bits 5 0 s)

  abbrev b : ℕ
  b = branch c (bits 11 9 s)

  -- "bit 11 clear means s2 is register bits 5..0; bit 11 set means s2 is bits 10..0, signed"
  abbrev pub two_to : ℕ → Op
  two_to d =
      pick (eqb (bits 11 11 s) 0)
      (record { opcode = o; s1 = s1; s2 = s2; b = 0; stored = 0; immediate = 0; offset = 0; t = d; carry = 0; way = Along })
      (record { opcode = o; s1 = s1; s2 = 0; b = 0; stored = 0; immediate = immediate_of s; offset = 0; t = d; carry = 0; way = Along })

  -- register 0 where there is none, 0 where there is no number
  abbrev pub decode_as : Format → Op
  decode_as Still = record { opcode = o; s1 = 0; s2 = 0; b = 0; stored = 0; immediate = 0; offset = 0; t = 0; carry = 0; way = way_as s Still }
  decode_as Two = two_to t
  decode_as One = record { opcode = o; s1 = s1; s2 = 0; b = 0; stored = 0; immediate = 0; offset = 0; t = t; carry = 0; way = Along }
  decode_as Carry = record { opcode = o; s1 = s1; s2 = s2; b = b; stored = 0; immediate = 0; offset = 0; t = t; carry = branch c (bits 8 6 s); way = Along }
  decode_as Test = two_to (branch c (bits 20 18 s))
  decode_as Select = record { opcode = o; s1 = s1; s2 = s2; b = b; stored = 0; immediate = 0; offset = 0; t = t; carry = 0; way = Along }
  decode_as Load = record { opcode = o; s1 = s1; s2 = 0; b = 0; stored = 0; immediate = 0; offset = offset_of s; t = t; carry = 0; way = Along }
  decode_as Store = record { opcode = o; s1 = s1; s2 = 0; b = 0; stored = t; immediate = 0; offset = offset_of s; t = 0; carry = 0; way = Along }
  decode_as Copy = record { opcode = o; s1 = general (source s) (bits 17 12 s); s2 = 0; b = 0; stored = 0; immediate = 0; offset = 0; t = t; carry = 0; way = Along }
  decode_as Jump = record { opcode = o; s1 = 0; s2 = 0; b = 0; stored = 0; immediate = 0; offset = 0; t = 0; carry = 0; way = way_as s Jump }
  decode_as Fork = record { opcode = o; s1 = 0; s2 = 0; b = branch c (bits 23 21 s); stored = 0; immediate = 0; offset = 0; t = 0; carry = 0; way = way_as s Fork }

  unfoldable pub decode : Op
  decode = decode_as (format_of (opcode s))
