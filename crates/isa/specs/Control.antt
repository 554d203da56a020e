-- Where a control syllable goes. "Control: stop, 61-63", and by order 1 call and return.
use Rattle.std.specs.Prelude.{Bool, true, false, ℕ, ◌-◌, eqb, Option, Some, None}
use Rattle.word.specs.Choice.{pick}
use Rattle.isa.specs.Syllable.{bits, opcode, format_of}
use Rattle.isa.specs.declared.Place.{Place}
use Rattle.isa.specs.declared.Format.{Format}
use Rattle.isa.specs.declared.Format.TheVariants.{Still, Two, One, Carry, Test, Select, Load, Store, Copy, Jump, Fork}
use Rattle.isa.specs.declared.Way.{Way}
use Rattle.isa.specs.declared.Way.TheVariants.{Along, Stop, Goto, Branch, Call, Return}
use Rattle.isa.specs.declared.Turn.{Turn}
use Rattle.isa.specs.declared.Turn.TheVariants.{Onward, Stops, To, Calls, Back}

abbrev pub place : ℕ → Place
place i = record { 0 = i }

module _ (s : ℕ) where
  -- "bits 23..18 = 0 nop, 1 stop"; "`call` and `return` .. under opcode 0, numbers 2 and 3. call has an 18-bit target in bits 17..0"
  abbrev pub still_way : ℕ → Way
  still_way number = pick (eqb number 1) Stop (pick (eqb number 2) (Call (place (bits 17 0 s))) (pick (eqb number 3) Return Along))

  -- "goto bits 23..0"; "br (taken on 1), brf (on 0) .. target bits 20..0": br is 62, brf 63
  abbrev pub way_as : Format → Way
  way_as Still = still_way (bits 23 18 s)
  way_as Two = Along
  way_as One = Along
  way_as Carry = Along
  way_as Test = Along
  way_as Select = Along
  way_as Load = Along
  way_as Store = Along
  way_as Copy = Along
  way_as Jump = Goto (place (bits 23 0 s))
  way_as Fork = Branch (63 - opcode s) (place (bits 20 0 s))

  -- the way that a syllable goes: along with the others, or as its control operation says
  unfoldable pub way_of : Way
  way_of = way_as (format_of (opcode s))

-- control is every way but along
abbrev pub controls : Way → Bool
controls Along = false
controls Stop = true
controls (Goto target) = true
controls (Branch wanted target) = true
controls (Call target) = true
controls Return = true

abbrev pub is_control : ℕ → Bool
is_control s = controls (way_of s)

abbrev pub target_of : Way → Option Place
target_of Along = None
target_of Stop = None
target_of (Goto target) = Some target
target_of (Branch wanted target) = Some target
target_of (Call target) = Some target
target_of Return = None

-- it has no company
abbrev pub solitary : Way → Bool
solitary Along = false
solitary Stop = true
solitary (Goto target) = false
solitary (Branch wanted target) = false
solitary (Call target) = false
solitary Return = true

-- it never leads on to the following instruction; after a call its return does
abbrev pub leaves : Way → Bool
leaves Along = false
leaves Stop = true
leaves (Goto target) = true
leaves (Branch wanted target) = false
leaves (Call target) = false
leaves Return = true

-- "An instruction with call or return is checked, and tested under 11, as if it read every register."
abbrev pub reads_every : Way → Bool
reads_every Along = false
reads_every Stop = false
reads_every (Goto target) = false
reads_every (Branch wanted target) = false
reads_every (Call target) = true
reads_every Return = true

-- where it sends the instruction that j follows, with b in its branch register
abbrev pub turn_of : Way → ℕ → Place → Turn
turn_of Along b j = Onward
turn_of Stop b j = Stops
turn_of (Goto target) b j = To target
turn_of (Branch wanted target) b j = pick (eqb b wanted) (To target) (To j)
turn_of (Call target) b j = Calls target
turn_of Return b j = Back
