-- A run's memory keeps its length.
use mathlib.Core.Path.{◌≡◌, refl, ◌∙◌}
use mathlib.Core.Bool.{Bool, true, false}
use mathlib.Core.List.{List, [], ◌∷◌}
use Prim.Native.Nat.{ℕ}
use lib.ListN.{length}
use lib.Seq.{length-sets}
use Rattle.word.specs.Choice.{pick}
use Rattle.word.specs.Bytes.{bytes}
use Rattle.vliw.specs.declared.Ending.TheVariants.{Faulted}
use Rattle.vliw.specs.declared.Fault.TheVariants.{InFlight}
use Rattle.vliw.specs.Run.{ends, run}
use Rattle.vliw.specs.Machine.{Out, fault, stop, go, uses, any_busy, Situation, stores, finish, step}
use Rattle.vliw.proofs.Runs.{Keeps, run_ends}
use Rattle.vliw.proofs.Flight.{acted}
use Rattle.isa.specs.declared.Delays.{Delays}
use Rattle.machine.specs.Link.{Memory, Change, storing, linking, change}
use Rattle.machine.specs.Instruction.{instruction_of}

stores_length : (cs : List Change) (m : Memory) → length (stores change cs m).bytes ≡ length m.bytes
stores_length [] m = refl
stores_length (storing s ∷ cs) m = stores_length cs (change (storing s) m) ∙ length-sets m.bytes s.at (bytes s.size s.value)
stores_length (linking i ∷ cs) m = stores_length cs (change (linking i) m)

module _ (d : Delays) (p : List ℕ) where
  abbrev Long : ℕ → Situation Memory Change → Type 0
  Long l s = length s.memory.bytes ≡ l

  keeps : (l : ℕ) (s : Situation Memory Change) → Long l s → Keeps (Long l) (λ e. Long l) (step change (instruction_of d p) s)
  keeps l s h = by (any_busy (uses (instruction_of d p s.place)) s.registers) (acted (instruction_of d p) s)
    where
      by : (x : Bool) (o : Out Change) → Keeps (Long l) (λ e. Long l) (pick x (ends (Faulted InFlight) s) (finish change (instruction_of d p s.place) s o))
      by true o = h
      by false (fault f) = h
      by false stop = h
      by false (go vs ss j) = stores_length (s.orders.stores 0 ss) s.memory ∙ h

  pub memory_length : (n : ℕ) (s : Situation Memory Change) → length (run (step change (instruction_of d p)) n s).state.memory.bytes ≡ length s.memory.bytes
  memory_length n s =
      let l = length s.memory.bytes in
      run_ends (Long l) (λ e. Long l) (step change (instruction_of d p)) (keeps l) (λ t h. h) n s refl
