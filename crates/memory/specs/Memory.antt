-- Loads and stores: which bytes an access goes to, and what it faults with. Memory is a list of bytes.
use Rattle.std.specs.Prelude.{Bool, false, not, ◌||◌, ◌&&◌, List, [], ◌∷◌, ℕ, ◌+◌, ◌%◌, eqb, ltb, Option, None, Some, Result, Ok, Err}
use Rattle.word.specs.Choice.{pick}
use Rattle.word.specs.Lists.{any}
use Rattle.word.specs.Bytes.{put_number}
use Rattle.vliw.specs.declared.Fault.{Fault}
use Rattle.vliw.specs.declared.Fault.TheVariants.{Misaligned, OutOfBounds}
use Rattle.memory.specs.declared.Store.{Store}

-- the access size: ldw and stw 4 bytes, ldh, ldhu and sth 2, ldb, ldbu and stb 1
abbrev pub size_of : ℕ → ℕ
size_of opcode =
    pick (eqb opcode 52 || eqb opcode 57) 4 (pick (eqb opcode 53 || (eqb opcode 54 || eqb opcode 58)) 2 1)

-- Which bytes an access goes to, what may be done there and at which offset; the only definition of it.
-- 12: "address no multiple of the access size"; 13: "access size plus address beyond memory". "The sum in 13 isn't reduced."
abbrev pub access : ℕ → ℕ → ℕ → Result ℕ Fault
access length size address =
    pick (not (eqb (address % size) 0)) (Err Misaligned) (pick (ltb length (size + address)) (Err OutOfBounds) (Ok address))

abbrev pub fault_in : Result ℕ Fault → Option Fault
fault_in (Ok a) = None
fault_in (Err f) = Some f

-- the offset, which is not asked of an access that is refused
abbrev pub offset_in : Result ℕ Fault → ℕ
offset_in (Ok a) = a
offset_in (Err f) = 0

-- the first of two faults that come one after the other
infixr 20 ◌or_else◌
abbrev pub ◌or_else◌ : Option Fault → Option Fault → Option Fault
◌or_else◌ None later = later
◌or_else◌ (Some f) later = Some f

-- a store is its offset `at`, its size and its value
abbrev pub store : Store → List ℕ → List ℕ
store s m = put_number s.size s.at s.value m

-- 14: "two stores of one instruction share a byte"
abbrev pub share : Store → Store → Bool
share a b = ltb a.at (b.at + b.size) && ltb b.at (a.at + a.size)

abbrev pub any_share : List Store → Bool
any_share [] = false
any_share (s ∷ ss) = any (share s) ss || any_share ss
