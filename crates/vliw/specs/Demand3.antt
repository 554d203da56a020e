-- Demand 3 of any machine: landings and the order of writes cannot be seen.
use Rattle.std.specs.Prelude.{◌≡◌, ◌≢◌, Bool, true, get_or, ℕ, ◌≤◌}
use mathlib.Core.List.{List, [], Memᴰ, Pairwise, map}
use Rattle.vliw.specs.declared.Ending.TheVariants.{Faulted}
use Rattle.vliw.specs.declared.Fault.TheVariants.{InFlight}
use Rattle.vliw.specs.Run.{run, view_ran}
use Rattle.vliw.specs.Cell.{at, landed}
use Rattle.vliw.specs.Machine.{Dest, fault, go, Instruction, uses, AnyOrder, Situation, step}
use Rattle.vliw.specs.Plain.{Plain, step_plain}
use Rattle.vliw.specs.Schedule.{NoneTooSoon}

-- the state once everything in flight has landed
abbrev pub settled : {Memory Store : Type 0} → Situation Memory Store → Plain Memory
settled s = record { place = s.place; registers = map landed s.registers; memory = s.memory }

-- two stores of which neither sees the other
abbrev pub Commute : {Memory Store : Type 0} → (Store → Memory → Memory) → Store → Store → Type 0
Commute {Memory = Memory} store a b = (m : Memory) → store b (store a m) ≡ store a (store b m)

-- it goes to one of its nexts; or to any start, where it reads every register that a result goes to and writes none
pub data Goes {Memory Store : Type 0} (program : ℕ → Instruction Memory Store) (starts : ℕ → Bool) (i j : ℕ) : Type 0 where
  next_to : Memᴰ j (program i).nexts → Goes program starts i j
  anywhere : starts j ≡ true → (program i).dests ≡ []
      → ((p : ℕ) (d : Dest) → starts p ≡ true → Memᴰ d (program p).dests → Memᴰ d.reg (program i).reads) → Goes program starts i j

-- what loading gives the machine; `starts i`: i is an instruction's first syllable
pub record WellFormed {Memory Store : Type 0} (store : Store → Memory → Memory) (program : ℕ → Instruction Memory Store) (starts : ℕ → Bool) : Type 0 where
  pub onward : (i j : ℕ) → starts i ≡ true → Memᴰ j (program i).nexts → starts j ≡ true
  pub delays : (i : ℕ) (d : Dest) → starts i ≡ true → Memᴰ d (program i).dests → 1 ≤ d.delay
  pub apart : (i : ℕ) → starts i ≡ true → Pairwise (λ (d e : Dest). d.reg ≢ e.reg) (program i).dests
  pub goes : (i : ℕ) (f : List ℕ) (m : Memory) (vs : List ℕ) (ss : List Store) (j : ℕ)
      → starts i ≡ true → (program i).acts f m ≡ go vs ss j → Goes program starts i j
  pub commutes : (i : ℕ) (f : List ℕ) (m : Memory) (vs : List ℕ) (ss : List Store) (j : ℕ)
      → starts i ≡ true → (program i).acts f m ≡ go vs ss j → Pairwise (Commute store) ss
  pub faults : (i : ℕ) (f : List ℕ) (m : Memory) → starts i ≡ true → (program i).acts f m ≢ fault InFlight
  pub reading : (i : ℕ) (f g : List ℕ) (m : Memory) → starts i ≡ true
      → ((r : ℕ) → Memᴰ r (program i).reads → get_or f r 0 ≡ get_or g r 0) → (program i).acts f m ≡ (program i).acts g m

abbrev pub Scheduled : {Memory Store : Type 0} → (ℕ → Instruction Memory Store) → (ℕ → Bool) → Type 0
Scheduled program starts = NoneTooSoon starts (λ i. (program i).dests) (λ i. (program i).nexts) (λ i. uses (program i))

-- a start with nothing in flight; the results of each instruction, and its stores, are written in any order
pub record Quiet {Memory Store : Type 0} (starts : ℕ → Bool) (s : Situation Memory Store) : Type 0 where
  pub place : starts s.place ≡ true
  pub valid : (r : ℕ) → (at s.registers r).landing ≤ (at s.registers r).busy
  pub quiet : (r : ℕ) → (at s.registers r).busy ≡ 0
  pub orders : AnyOrder s.orders

-- For every choice of landings s.landing and of orders s.orders the run is the plain machine's, and none ends at a register in flight.
pub record Unseen {Memory Store : Type 0} (store : Store → Memory → Memory) (program : ℕ → Instruction Memory Store) (s : Situation Memory Store) (n : ℕ) : Type 0 where
  pub same : view_ran settled (run (step store program) n s) ≡ run (step_plain store program) n (settled s)
  pub unfaulted : (run (step store program) n s).ending ≢ Faulted InFlight

abbrev pub AnyDemand3 : (Memory Store : Type 0) → Type 0
AnyDemand3 Memory Store =
    (store : Store → Memory → Memory) (program : ℕ → Instruction Memory Store) (starts : ℕ → Bool)
    → WellFormed store program starts → Scheduled program starts
    → (s : Situation Memory Store) → Quiet starts s → (n : ℕ) → Unseen store program s n
