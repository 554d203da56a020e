-- Of an operation none of whose registers is in flight nothing is late: where no register is at all, and where it names none.
use mathlib.Core.Path.{◌≡◌}
use mathlib.Core.Bool.{Bool, false, not, and-false}
use mathlib.Core.List.{List}
use Prim.Native.Nat.{ℕ, ◌≤◌}
use lib.Dec.{eqb}
use borrow.Author.Tests.{le-ltb}
use Rattle.isa.specs.Syllable.{opcode}
use Rattle.isa.specs.Decode.{decode, decode_as}
use Rattle.isa.specs.declared.Op.{Op}
use Rattle.isa.specs.declared.Format.TheVariants.{Still}
use Rattle.isa.proofs.Formats.{format_of_lem}
use Rattle.ticks.specs.Ticks.{register_at}
use Rattle.ticks.specs.declared.Register.{Register}
use Rattle.gather.specs.Gather.{Flying, named_late, op_late}

named_idle : (t : ℕ) (rs : List Register) (r : ℕ) → (register_at rs r).ready ≤ t → named_late t rs r ≡ false
named_idle t rs r h = rw (le-ltb t (register_at rs r).ready h) (and-false (not (eqb r 0)))

-- opcode 0 names no register
still_decode : (c s : ℕ) → opcode s ≡ 0 → decode c s ≡ decode_as c s Still
unfolding decode
still_decode c s z = rw (format_of_lem Still (opcode s) z)

module _ {flying : Bool} {t : ℕ} {rs : List Register} (f : Flying flying t rs) (o : Op) where
  pub idle_late : flying ≡ false → op_late t rs o ≡ false
  idle_late z =
      let h = f.others z in
      rw (le-ltb t (register_at rs o.s1).ready (h o.s1), le-ltb t (register_at rs o.s2).ready (h o.s2), le-ltb t (register_at rs o.t).ready (h o.t), named_idle t rs o.b (h o.b), named_idle t rs o.stored (h o.stored), named_idle t rs o.carry (h o.carry))

  pub still_late : (c s : ℕ) → opcode s ≡ 0 → o ≡ decode c s → op_late t rs o ≡ false
  still_late c s z e = rw (e, still_decode c s z, le-ltb t (register_at rs 0).ready f.nothing)
