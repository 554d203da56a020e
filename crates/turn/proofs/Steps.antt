-- One step of the machine, from what a pass over the instruction's operations gathered.
use mathlib.Core.Path.{◌≡◌, refl}
use mathlib.Core.Bool.{Bool, true, false, ◌||◌, ◌&&◌}
use mathlib.Core.List.{List, [], ◌∷◌, ◌++◌, map}
use Prim.Native.Nat.{ℕ}
use lib.ListN.{length}
use Rattle.word.specs.Choice.{pick}
use Rattle.word.specs.Lists.{any, any_below}
use Rattle.vliw.specs.Run.{Step, ends, next}
use Rattle.vliw.specs.Cell.{Cell, Registers, at, aged, rested, puts}
use Rattle.vliw.specs.Machine.{Out, fault, Situation, in_order, writes, bytes_left, stores, finish, step}
use Rattle.vliw.specs.declared.Ending.TheVariants.{Stopped, Faulted}
use Rattle.vliw.specs.declared.Fault.{Fault}
use Rattle.vliw.specs.declared.Fault.TheVariants.{InFlight, StoresClash, BadLink}
use Rattle.isa.specs.Program.{is_start, operations_at, following}
use Rattle.isa.specs.Touch.{dests}
use Rattle.isa.specs.declared.Op.{Op}
use Rattle.isa.specs.declared.Delays.{Delays}
use Rattle.std.specs.Prelude.{None, Some}
use Rattle.memory.specs.Memory.{store, any_share}
use Rattle.memory.specs.declared.Store.{Store}
use Rattle.machine.specs.Link.{Memory, Change, memory_of, storing, change}
use Rattle.machine.specs.Instruction.{Fired, fire, result_values, stores_of, fault_of, Next, stops, goes_on, out_by, acts, instruction_of}
use Rattle.machine.specs.Instruction.{at as goes_to}
use Rattle.gather.specs.Gather.{op_busy, next_from}
use Rattle.gather.proofs.OnePass.{flies, has_every, busy_uses, next_from_lem}

-- the bytes are stored, then what becomes of the link
pub stored_bytes : (ss : List Store) (ls : List Change) (m : Memory)
    → stores change (map storing ss ++ ls) m ≡ stores change ls (memory_of (stores store ss m.bytes) m.link)
stored_bytes [] ls m = refl
stored_bytes (s ∷ ss) ls m = stored_bytes ss ls (change (storing s) m)

module _ (d : Delays) (p : List ℕ) (i : ℕ) (l : Registers) (m : Memory) (bs : List ℕ) where
  -- a state of a run in the order of the syllables, and its step
  abbrev s : Situation Memory Change
  s = record { place = i; registers = l; memory = m; landing = bs; orders = in_order }

  abbrev stepped : Step (Situation Memory Change)
  stepped = step change (instruction_of d p) s

  abbrev os : List Op
  os = operations_at p i

  abbrev es : List Fired
  es = map (fire (map (λ (c : Cell). c.value) l)) os

  abbrev goal : Next
  goal = next_from (following p i) es (goes_to (following p i))

  abbrev out : Out Change
  out = out_by (is_start p) (following p i) goal m es

  -- one of its registers is in flight
  abbrev pub is_in_flight : Bool
  is_in_flight = any (op_busy l) os || (any has_every os && any_below (flies l) 288)

  module _ (idle : (at l 0).busy ≡ 0) where
    step_is : stepped ≡ pick is_in_flight (ends (Faulted InFlight) s) (finish change (instruction_of d p i) s out)
    unfolding acts
    step_is = rw (busy_uses l idle d os, next_from_lem (following p i) es)

    pub step_busy : is_in_flight ≡ true → stepped ≡ ends (Faulted InFlight) s
    step_busy b = rw (step_is, b)

    module _ (free : is_in_flight ≡ false) where
      pub step_stop : goal ≡ stops → stepped ≡ ends Stopped record { place = i; registers = map rested l; memory = m; landing = bs; orders = in_order }
      step_stop h = rw (step_is, free, h)

      pub step_lost : out ≡ fault BadLink → stepped ≡ ends (Faulted BadLink) s
      step_lost h = rw (step_is, free, h)

      module _ (ls : List Change) (k : ℕ) (on : out ≡ goes_on ls k m.bytes es) where
        pub step_fault : (f : Fault) → fault_of (length m.bytes) es ≡ Some f → stepped ≡ ends (Faulted f) s
        step_fault f h = rw (step_is, free, on, h)

        module _ (good : fault_of (length m.bytes) es ≡ None) where
          pub step_shared : any_share (stores_of (length m.bytes) es) ≡ true → stepped ≡ ends (Faulted StoresClash) s
          step_shared h = rw (step_is, free, on, good, h)

          pub step_go : any_share (stores_of (length m.bytes) es) ≡ false
              → stepped
              ≡ next
              record {
                place = k;
                registers = puts (writes (dests d os) (result_values m.bytes es) bs) (map aged l);
                memory = stores change ls (memory_of (stores store (stores_of (length m.bytes) es) m.bytes) m.link);
                landing = bytes_left (dests d os) (result_values m.bytes es) bs;
                orders = in_order;
              }
          step_go h = rw (step_is, free, on, good, h) (rw (stored_bytes (stores_of (length m.bytes) es) ls m))
