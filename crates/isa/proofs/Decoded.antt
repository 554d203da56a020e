-- What the crates above know of a decoded syllable.
use mathlib.Core.Path.{◌≡◌, refl, ap}
use mathlib.Core.Bool.{false≢true}
use mathlib.Core.Logic.{◌⊎◌, inl, inr}
use Prim.Native.Nat.{ℕ, ◌+◌, ◌*◌, ◌%◌, ◌^◌, ◌≤◌, ◌<◌}
use native.Mathlib.Nat.{mod-lt}
use native.Mathlib.Omega.{arith}
use lib.Dec.{eqb, lit<, lit≤}
use Rattle.word.proofs.Widen.{widen_word}
use Rattle.isa.specs.Syllable.{bits, opcode, format_of}
use Rattle.isa.specs.Register.{general, branch}
use Rattle.isa.specs.Decode.{decode_as, decode}
use Rattle.isa.specs.Control.{way_as, way_of, solitary}
use Rattle.isa.specs.declared.Op.{Op}
use Rattle.isa.specs.declared.Way.TheVariants.{Along, Return}
use Rattle.isa.specs.declared.Format.{Format}
use Rattle.isa.specs.declared.Format.TheVariants.{Still, Two, One, Carry, Test, Select, Load, Store, Copy, Jump, Fork}
use Rattle.isa.proofs.Steps.{either_way}
use Rattle.isa.proofs.Formats.{Among, format_among, format_of_lem}

-- s1, s2 and a store's register are general registers, the others of either kind; the numbers are words; where carry is a register, it and
-- b are branch registers
pub record Decoded (s : ℕ) (o : Op) : Type 0 where
  pub code : o.opcode ≡ opcode s
  pub s1 : o.s1 < 256
  pub s2 : o.s2 < 256
  pub b : o.b < 288
  pub stored : o.stored < 256
  pub t : o.t < 288
  pub carry : o.carry < 288
  pub immediate : o.immediate < 2 ^ 32
  pub offset : o.offset < 2 ^ 32
  pub carrying : (o.carry ≡ 0) ⊎ ((256 ≤ o.b) × (256 ≤ o.carry))

general_below : (c r : ℕ) → c < 4 → r < 64 → general c r < 256
general_below c r h k = either_way (λ (n : ℕ). n < 256) (eqb r 0) 0 (c * 64 + r) (omega arith) (omega arith)

general_register : (c r : ℕ) → c < 4 → r < 64 → general c r < 288
general_register c r h k = omega (arith, general_below c r h k)

branch_register : (c r : ℕ) → c < 4 → r < 8 → branch c r < 288
branch_register c r h k = omega arith

branch_above : (c r : ℕ) → 256 ≤ branch c r
branch_above c r = omega arith

field_word : (x m : ℕ) → 0 < m → m ≤ 2 ^ 32 → x % m < 2 ^ 32
field_word x m p q = omega (arith, mod-lt x p)

ruleset bounds = (lit<, lit≤, mod-lt, field_word, general_below, general_register, branch_register, branch_above, widen_word, inl, inr)

module _ (c s : ℕ) (h : c < 4) where
  decoded_as : (f : Format) → Decoded s (decode_as c s f)
  decoded_as Still = search bounds
  decoded_as Two = either_way (Decoded s) (eqb (bits 11 11 s) 0) _ _ (search bounds) (search bounds)
  decoded_as One = search bounds
  decoded_as Carry = search bounds
  decoded_as Test = either_way (Decoded s) (eqb (bits 11 11 s) 0) _ _ (search bounds) (search bounds)
  decoded_as Select = search bounds
  decoded_as Load = search bounds
  decoded_as Store = search bounds
  decoded_as Copy = search bounds
  decoded_as Jump = search bounds
  decoded_as Fork = search bounds

  pub decoded : Decoded s (decode c s)
  unfolding decode
  decoded = decoded_as (format_of (opcode s))

  -- t is a branch register for no other opcodes than 40-49, and for these (`test-above`)
  no_test : 256 ≤ general c (bits 23 18 s) → Among Test (opcode s)
  no_test k = omega (arith, general_below c (bits 23 18 s) h (search bounds))

  test_as : (f : Format) → Among f (opcode s) → 256 ≤ (decode_as c s f).t → Among Test (opcode s)
  test_as Still a = λ k. omega arith
  test_as Two a = either_way (λ (o : Op). 256 ≤ o.t → Among Test (opcode s)) (eqb (bits 11 11 s) 0) _ _ no_test no_test
  test_as One a = no_test
  test_as Carry a = no_test
  test_as Test a = λ k. a
  test_as Select a = no_test
  test_as Load a = no_test
  test_as Store a = λ k. omega arith
  test_as Copy a = no_test
  test_as Jump a = λ k. omega arith
  test_as Fork a = λ k. omega arith

  pub test_only : 256 ≤ (decode c s).t → Among Test (opcode s)
  unfolding decode
  test_only = test_as (format_of (opcode s)) (format_among (opcode s))

-- the line of an opcode's form
pub decode_as_lem : (f : Format) (c s : ℕ) → Among f (opcode s) → decode c s ≡ decode_as c s f
unfolding decode
decode_as_lem f c s a = rw (format_of_lem f (opcode s) a)

pub test_above : (c s : ℕ) → Among Test (opcode s) → 256 ≤ (decode c s).t
test_above c s a = rw (decode_as_lem Test c s a) (either_way (λ (o : Op). 256 ≤ o.t) (eqb (bits 11 11 s) 0) _ _ (omega arith) (omega arith))

-- a decoded syllable goes its way in every cluster
pub decode_way : (c s : ℕ) → (decode c s).way ≡ way_of s
unfolding decode way_of
decode_way c s = by (format_of (opcode s))
  where
    by : (f : Format) → (decode_as c s f).way ≡ way_as s f
    by Still = refl
    by Two = either_way (λ (o : Op). o.way ≡ Along) (eqb (bits 11 11 s) 0) _ _ refl refl
    by One = refl
    by Carry = refl
    by Test = either_way (λ (o : Op). o.way ≡ Along) (eqb (bits 11 11 s) 0) _ _ refl refl
    by Select = refl
    by Load = refl
    by Store = refl
    by Copy = refl
    by Jump = refl
    by Fork = refl

-- a return writes nothing
pub return_silent : (c s : ℕ) → way_of s ≡ Return → ((decode c s).t ≡ 0) × ((decode c s).carry ≡ 0)
unfolding decode way_of
return_silent c s h = by (format_of (opcode s)) h
  where
    by : (f : Format) → way_as s f ≡ Return → ((decode_as c s f).t ≡ 0) × ((decode_as c s f).carry ≡ 0)
    by Still e = (refl, refl)
    by Two e = absurd (false≢true (ap solitary e))
    by One e = absurd (false≢true (ap solitary e))
    by Carry e = absurd (false≢true (ap solitary e))
    by Test e = absurd (false≢true (ap solitary e))
    by Select e = absurd (false≢true (ap solitary e))
    by Load e = absurd (false≢true (ap solitary e))
    by Store e = absurd (false≢true (ap solitary e))
    by Copy e = absurd (false≢true (ap solitary e))
    by Jump e = absurd (false≢true (ap solitary e))
    by Fork e = absurd (false≢true (ap solitary e))

pub opcode_below : (s : ℕ) → opcode s < 64
opcode_below s = omega arith
