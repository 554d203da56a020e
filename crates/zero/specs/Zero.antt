-- Refusal 4: "bits 23..18 of opcode 0 above 1, or a bit that should be zero is set", by order 1 "above 3". "Bits not named are zero."
use Rattle.std.specs.Prelude.{Bool, false, not, ◌||◌, ◌&&◌, ℕ, eqb, ltb}
use Rattle.isa.specs.Syllable.{bits, opcode, format_of}
use Rattle.isa.specs.declared.Format.{Format}
use Rattle.isa.specs.declared.Format.TheVariants.{Still, Two, One, Carry, Test, Select, Load, Store, Copy, Jump, Fork}

abbrev pub set : ℕ → Bool
set x = not (eqb x 0)

-- bit 11 clear means that s2 is register bits 5..0, and bits 10..6 are not named
abbrev pub beside_register : ℕ → Bool
beside_register s = eqb (bits 11 11 s) 0 && set (bits 10 6 s)

abbrev pub bad_bits_as : Format → ℕ → Bool
bad_bits_as Still s = ltb 3 (bits 23 18 s) || (not (eqb (bits 23 18 s) 2) && set (bits 17 0 s))  -- 2 is call, with its target
bad_bits_as Two s = beside_register s
bad_bits_as One s = set (bits 11 0 s)
bad_bits_as Carry s = false
bad_bits_as Test s = set (bits 23 21 s) || beside_register s
bad_bits_as Select s = set (bits 8 6 s)
bad_bits_as Load s = false
bad_bits_as Store s = false
bad_bits_as Copy s = set (bits 11 2 s)
bad_bits_as Jump s = false
bad_bits_as Fork s = false

unfoldable pub bad_bits : ℕ → Bool
bad_bits s = bad_bits_as (format_of (opcode s)) s
