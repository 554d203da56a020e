-- Document 01, "One instruction", for any machine whose instructions read, write and go on: no VEX in it.
use Rattle.std.specs.Prelude.{Bool, ℕ, suc, ◌-◌, ltb}
use mathlib.Core.List.{List, [], ◌∷◌, ◌++◌, map, Permᴰ}
use Rattle.word.specs.Choice.{pick}
use Rattle.word.specs.Lists.{any}
use Rattle.vliw.specs.declared.Fault.{Fault}
use Rattle.vliw.specs.declared.Fault.TheVariants.{InFlight}
use Rattle.vliw.specs.declared.Ending.TheVariants.{Stopped, Faulted}
use Rattle.vliw.specs.Run.{Step, ends, next}
use Rattle.vliw.specs.Cell.{Cell, Registers, Write, at, aged, rested, puts, choose, others}

pub record Dest : Type 0 where
  pub reg : ℕ
  pub delay : ℕ

-- what an instruction does: it faults, stops, or goes on with a value for each destination, its stores and the next place
pub data Out (Store : Type 0) : Type 0 where
  fault : Fault → Out Store
  stop : Out Store
  go : List ℕ → List Store → ℕ → Out Store

-- an instruction: the registers it reads, its destinations with their delays, where it may go, and what it does with the registers' values and the memory
pub record Instruction (Memory Store : Type 0) : Type 0 where
  pub reads : List ℕ
  pub dests : List Dest
  pub nexts : List ℕ
  pub acts : List ℕ → Memory → Out Store

-- reads and destinations
abbrev pub uses : {Memory Store : Type 0} → Instruction Memory Store → List ℕ
uses I = I.reads ++ map (λ (d : Dest). d.reg) I.dests

-- a register with busy above 0 is read or is a destination
abbrev pub any_busy : List ℕ → Registers → Bool
any_busy rs l = any (λ r. ltb 0 (at l r).busy) rs

-- the results in the order of the syllables, each with its landing byte; and the bytes that they leave
abbrev pub writes : List Dest → List ℕ → List ℕ → List Write
writes [] vs bs = []
writes (d ∷ ds) [] bs = []
writes (d ∷ ds) (v ∷ vs) bs =
    record { reg = d.reg; result = v; busy = d.delay - 1; landing = choose d.delay bs } ∷ writes ds vs (others bs)

abbrev pub bytes_left : List Dest → List ℕ → List ℕ → List ℕ
bytes_left [] vs bs = bs
bytes_left (d ∷ ds) [] bs = bs
bytes_left (d ∷ ds) (v ∷ vs) bs = bytes_left ds vs (others bs)

-- in which order each instruction to come, counted from 0, writes its results and its stores
pub record Orders (Store : Type 0) : Type 0 where
  pub results : ℕ → List Write → List Write
  pub stores : ℕ → List Store → List Store

module _ {Store : Type 0} where
  -- the order of the syllables
  abbrev pub in_order : Orders Store
  in_order = record { results = λ k ws. ws; stores = λ k ss. ss }

  abbrev pub later : Orders Store → Orders Store
  later o = record { results = λ k. o.results (suc k); stores = λ k. o.stores (suc k) }

-- each of them some order of what is written
pub record AnyOrder {Store : Type 0} (o : Orders Store) : Type 0 where
  pub results : (k : ℕ) (ws : List Write) → Permᴰ ws (o.results k ws)
  pub stores : (k : ℕ) (ss : List Store) → Permᴰ ss (o.stores k ss)

pub record Situation (Memory Store : Type 0) : Type 0 where
  pub place : ℕ
  pub registers : Registers
  pub memory : Memory
  pub landing : List ℕ  -- the landing bytes left
  pub orders : Orders Store

module _ {Memory Store : Type 0} (store : Store → Memory → Memory) where
  abbrev pub stores : List Store → Memory → Memory
  stores [] m = m
  stores (s ∷ ss) m = stores ss (store s m)

  abbrev pub finish : Instruction Memory Store → Situation Memory Store → Out Store → Step (Situation Memory Store)
  finish I s (fault f) = ends (Faulted f) s
  finish I s stop =
      ends Stopped
      record {
        place = s.place;
        registers = map rested s.registers;
        memory = s.memory;
        landing = s.landing;
        orders = s.orders;
      }
  finish I s (go vs ss j) =
      next
      record {
        place = j;
        registers = puts (s.orders.results 0 (writes I.dests vs s.landing)) (map aged s.registers);
        memory = stores (s.orders.stores 0 ss) s.memory;
        landing = bytes_left I.dests vs s.landing;
        orders = later s.orders;
      }

  -- a register in flight comes first; all operands and loaded bytes are read before anything is written
  abbrev pub step : (ℕ → Instruction Memory Store) → Situation Memory Store → Step (Situation Memory Store)
  step program s =
      let I = program s.place in
      pick (any_busy (uses I) s.registers)
      (ends (Faulted InFlight) s)
      (finish I s (I.acts (map (λ (c : Cell). c.value) s.registers) s.memory))
