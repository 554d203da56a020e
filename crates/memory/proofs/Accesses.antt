-- Laws of accesses: of the mask, of where they go, and a test of a list as std has it.
use mathlib.Core.Path.{◌≡◌, refl}
use mathlib.Core.Bool.{Bool, true, false}
use mathlib.Core.List.{List, [], ◌∷◌}
use Prim.Native.Nat.{ℕ, zero, suc, ◌+◌, ◌-◌, ◌%◌, ◌≤◌}
use native.Mathlib.Omega.{arith}
use lib.Dec.{eqb, ltb}
use lib.Bits.{bit_and, and_mask}
use borrow.Author.Tests.{ltb-false}
use Rattle.word.specs.Lists.{any}
use Rattle.std.specs.List.{list_any}
use Rattle.std.specs.Prelude.{Result, Ok, Err}
use Rattle.vliw.specs.declared.Fault.{Fault}
use Rattle.vliw.specs.declared.Fault.TheVariants.{Misaligned, OutOfBounds}
use Rattle.memory.specs.Memory.{access}
use Rattle.memory.specs.Held.{Width, Within}

-- a mask takes the remainder
pub mask_width : {n : ℕ} → Width n → (a : ℕ) → bit_and a (n - 1) ≡ a % n
mask_width {n = zero} w a = absurd (omega arith)
mask_width {n = suc zero} w a = and_mask a 0
mask_width {n = suc (suc zero)} w a = and_mask a 1
mask_width {n = suc (suc (suc zero))} w a = absurd (w.three refl)
mask_width {n = suc (suc (suc (suc zero)))} w a = and_mask a 2
mask_width {n = suc (suc (suc (suc (suc n))))} w a = absurd (omega arith)

-- ---- where an access goes

-- inside a memory of m bytes, or it is refused
pub data Goes (m size address : ℕ) : Result ℕ Fault → Type 0 where
  inside : size + address ≤ m → Goes m size address (Ok address)
  misaligned : Goes m size address (Err Misaligned)
  outside : Goes m size address (Err OutOfBounds)

pub goes : (m size address : ℕ) → Goes m size address (access m size address)
goes m size address = by (eqb (address % size) 0) refl (ltb m (size + address)) refl
  where
    by : (even : Bool) → eqb (address % size) 0 ≡ even → (far : Bool) → ltb m (size + address) ≡ far → Goes m size address (access m size address)
    by false e far f = rw e misaligned
    by true e true f = rw (e, f) outside
    by true e false f = rw (e, f) (inside (ltb-false _ _ f))

pub access_within : {m size a : ℕ} (address : ℕ) → Width size → access m size address ≡ Ok a → Within a size m
access_within {m} {size} {a} address w e = by (goes m size address) e
  where
    by : {x : Result ℕ Fault} → Goes m size address x → x ≡ Ok a → Within a size m
    by (inside f) e = let q : address ≡ a = cc in record { width = w; inside = omega arith }
    by misaligned e = let z : ◌≡◌ {A = ℕ} 0 1 = cc in absurd (omega arith)
    by outside e = let z : ◌≡◌ {A = ℕ} 0 1 = cc in absurd (omega arith)

-- ---- a test of a list

pub any_is : {A : Type 0} (f : A → Bool) (l : List A) → list_any f l ≡ any f l
any_is f [] = refl
any_is f (x ∷ xs) = rw (any_is f xs) refl
