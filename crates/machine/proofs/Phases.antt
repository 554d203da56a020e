-- Laws of the phases over an instruction's operations, for going operation by operation.
use mathlib.Core.Path.{◌≡◌, refl, sym}
use mathlib.Core.Bool.{Bool, true, false}
use mathlib.Core.List.{List, [], ◌∷◌, ◌++◌, map-append}
use Prim.Native.Nat.{ℕ}
use Rattle.word.specs.Choice.{pick}
use Rattle.vliw.specs.declared.Fault.TheVariants.{Misaligned, OutOfBounds}
use Rattle.isa.specs.Syllable.{is_mem}
use Rattle.isa.specs.Touch.{results, dests}
use Rattle.isa.specs.declared.Op.{Op}
use Rattle.isa.specs.declared.Delays.{Delays}
use Rattle.memory.specs.Memory.{size_of, fault_in, ◌or_else◌}
use Rattle.std.specs.Prelude.{Option, None, Some, Result}
use Rattle.vliw.specs.declared.Fault.{Fault}
use Rattle.memory.proofs.Accesses.{Goes, inside, misaligned, outside, goes}
use Rattle.machine.specs.Instruction.{Fired, address_of, result_values, stores_of, access_fault, fault_of}

-- ---- some operations, then others

pick_append : {A : Type 0} (t : Bool) (x y l : List A) → pick t x y ++ l ≡ pick t (x ++ l) (y ++ l)
pick_append true x y l = refl
pick_append false x y l = refl

pub values_append : (m : List ℕ) (es fs : List Fired) → result_values m (es ++ fs) ≡ result_values m es ++ result_values m fs
values_append m [] fs = refl
values_append m (e ∷ es) fs = simp (values_append m es fs, pick_append)

pub stores_of_append : (n : ℕ) (es fs : List Fired) → stores_of n (es ++ fs) ≡ stores_of n es ++ stores_of n fs
stores_of_append n [] fs = refl
stores_of_append n (e ∷ es) fs = simp (stores_of_append n es fs, pick_append)

results_append : (os ps : List Op) → results (os ++ ps) ≡ results os ++ results ps
results_append [] ps = refl
results_append (o ∷ os) ps = simp (results_append os ps, pick_append)

pub dests_append : (d : Delays) (os ps : List Op) → dests d (os ++ ps) ≡ dests d os ++ dests d ps
dests_append d os ps = rw (results_append os ps) (map-append _ (results os) (results ps))

-- ---- faults

or_else_assoc : (a b c : Option Fault) → (a or_else b) or_else c ≡ a or_else (b or_else c)
or_else_assoc None b c = refl
or_else_assoc (Some f) b c = refl

-- the first fault counts
pub fault_of_append : (n : ℕ) (es fs : List Fired) → fault_of n (es ++ fs) ≡ fault_of n es or_else fault_of n fs
fault_of_append n [] fs = refl
fault_of_append n (e ∷ es) fs = rw (fault_of_append n es fs) (sym (or_else_assoc (access_fault n e) (fault_of n es) (fault_of n fs)))

or_else_none : (a : Option Fault) → a or_else None ≡ a
or_else_none None = refl
or_else_none (Some f) = refl

pub fault_of_one : (n : ℕ) (e : Fired) → fault_of n (e ∷ []) ≡ access_fault n e
fault_of_one n e = or_else_none (access_fault n e)

-- what none, misaligned and out of bounds have, it has
pub fault_of_is : (P : Option Fault → Type 0) → P None → P (Some Misaligned) → P (Some OutOfBounds) → (n : ℕ) (es : List Fired) → P (fault_of n es)
fault_of_is P none odd far n [] = none
fault_of_is P none odd far n (e ∷ es) = by (is_mem e.op.opcode) (goes n (size_of e.op.opcode) (address_of e)) (fault_of_is P none odd far n es)
  where
    by : (t : Bool) {x : Result ℕ Fault} → Goes n (size_of e.op.opcode) (address_of e) x → P (fault_of n es) → P (pick t (fault_in x) None or_else fault_of n es)
    by true (inside f) more = more
    by true misaligned more = odd
    by true outside more = far
    by false g more = more
