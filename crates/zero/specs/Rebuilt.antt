-- A syllable, rebuilt from what decoding takes out of it: each field times 2 to its lowest bit. "Bits not named are zero."
use Rattle.std.specs.Prelude.{◌≡◌, false, ◌↔◌, ℕ, ◌+◌, ◌*◌, ◌/◌, ◌%◌, ◌^◌, ◌<◌, eqb}
use Rattle.word.specs.Choice.{pick}
use Rattle.isa.specs.Syllable.{bits, format_of}
use Rattle.isa.specs.Decode.{decode}
use Rattle.isa.specs.declared.Op.{Op}
use Rattle.isa.specs.declared.Way.{Way}
use Rattle.isa.specs.declared.Way.TheVariants.{Along, Stop, Goto, Branch, Call, Return}
use Rattle.isa.specs.declared.Format.{Format}
use Rattle.isa.specs.declared.Format.TheVariants.{Still, Two, One, Carry, Test, Select, Load, Store, Copy, Jump, Fork}
use Rattle.zero.specs.Zero.{bad_bits}

-- what decoding leaves behind: bits 31, 30 and 11; and bits 1..0, of which a copy from register 0 keeps nothing
pub record Kept : Type 0 where
  pub bit31 : ℕ
  pub bit30 : ℕ
  pub bit11 : ℕ
  pub source : ℕ

abbrev pub kept_of : ℕ → Kept
kept_of s = record { bit31 = bits 31 31 s; bit30 = bits 30 30 s; bit11 = bits 11 11 s; source = bits 1 0 s }

-- a register's number within its cluster
abbrev pub general_field : ℕ → ℕ
general_field n = n % 64

abbrev pub branch_field : ℕ → ℕ
branch_field n = n % 8

-- the number of opcode 0 in bits 23..18, "0 nop, 1 stop", 2 call, 3 return; a target as it is
abbrev pub way_field : Way → ℕ
way_field Along = 0
way_field Stop = 2 ^ 18
way_field (Goto target) = target.0
way_field (Branch wanted target) = target.0
way_field (Call target) = 2 * 2 ^ 18 + target.0
way_field Return = 3 * 2 ^ 18

module _ (k : Kept) (o : Op) where
  -- "bit 11 clear means s2 is register bits 5..0; bit 11 set means s2 is bits 10..0"
  abbrev pub s2_field : ℕ
  s2_field = pick (eqb k.bit11 0) (general_field o.s2) (2 ^ 11 + o.immediate % 2 ^ 11)

  -- "the cluster in bits 1..0", of a copy
  abbrev pub source_field : ℕ
  source_field = pick (eqb o.s1 0) k.source (o.s1 / 64)

  -- bits 23..0
  abbrev pub fields_as : Format → ℕ
  fields_as Still = way_field o.way
  fields_as Two = general_field o.t * 2 ^ 18 + general_field o.s1 * 2 ^ 12 + s2_field
  fields_as One = general_field o.t * 2 ^ 18 + general_field o.s1 * 2 ^ 12
  fields_as Carry = general_field o.t * 2 ^ 18 + general_field o.s1 * 2 ^ 12 + branch_field o.b * 2 ^ 9 + branch_field o.carry * 2 ^ 6 + general_field o.s2
  fields_as Test = branch_field o.t * 2 ^ 18 + general_field o.s1 * 2 ^ 12 + s2_field
  fields_as Select = general_field o.t * 2 ^ 18 + general_field o.s1 * 2 ^ 12 + branch_field o.b * 2 ^ 9 + general_field o.s2
  fields_as Load = general_field o.t * 2 ^ 18 + general_field o.s1 * 2 ^ 12 + o.offset % 2 ^ 12
  fields_as Store = general_field o.stored * 2 ^ 18 + general_field o.s1 * 2 ^ 12 + o.offset % 2 ^ 12
  fields_as Copy = general_field o.t * 2 ^ 18 + general_field o.s1 * 2 ^ 12 + source_field
  fields_as Jump = way_field o.way
  fields_as Fork = branch_field o.b * 2 ^ 21 + way_field o.way

  unfoldable pub rebuilt : ℕ
  rebuilt = k.bit31 * 2 ^ 31 + k.bit30 * 2 ^ 30 + o.opcode * 2 ^ 24 + fields_as (format_of o.opcode)

-- a syllable in cluster c is rebuilt exactly if refusal 4 is not given for it
abbrev pub Rebuilds : ℕ → ℕ → Type 0
Rebuilds c s = c < 4 → s < 2 ^ 32 → (bad_bits s ≡ false) ↔ (rebuilt (kept_of s) (decode c s) ≡ s)
