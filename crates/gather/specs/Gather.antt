-- Private to the run's loop, nobody has to believe it: what one pass over an instruction's operations gathers, operation by operation.
use Rattle.std.specs.Prelude.{Bool, false, not, ◌||◌, ◌&&◌, List, [], ◌∷◌, ◌++◌, map, ◌≡◌, ℕ, suc, ◌+◌, ◌*◌, ◌≤◌, ◌<◌, eqb, ltb, length, get_or, None}
use Rattle.word.specs.Choice.{pick}
use Rattle.word.specs.Lists.{any}
use Rattle.ops.specs.Value.{value, carry}
use Rattle.vliw.specs.Cell.{Cell, Registers, at}
use Rattle.vliw.specs.Machine.{Dest}
use Rattle.isa.specs.Syllable.{is_copy}
use Rattle.isa.specs.Control.{place, turn_of}
use Rattle.isa.specs.Program.{nowhere}
use Rattle.isa.specs.Touch.{delay_of, dests}
use Rattle.isa.specs.declared.Op.{Op}
use Rattle.isa.specs.declared.Spot.{Spot}
use Rattle.isa.specs.declared.Delays.{Delays}
use Rattle.isa.specs.declared.Place.{Place}
use Rattle.isa.specs.declared.Way.TheVariants.{Along}
use Rattle.isa.specs.declared.Turn.{Turn}
use Rattle.isa.specs.declared.Turn.TheVariants.{Onward, Stops, To, Calls, Back as BackTo}
use Rattle.memory.specs.Memory.{◌or_else◌}
use Rattle.memory.specs.Held.{Stores}
use Rattle.memory.specs.declared.Store.{Store}
use Rattle.machine.specs.Instruction.{Fired, fire, value_in, result_values, stores_of, fault_of, Next, next_by}
use Rattle.ticks.specs.Ticks.{register_at, dests_in, values_in, Results}
use Rattle.ticks.specs.declared.Register.{Register}
use Rattle.ticks.specs.declared.Made.{Made}
use Rattle.gather.specs.declared.Scratch.{Scratch}
use Rattle.gather.specs.declared.Seen.{Seen}
use Rattle.gather.specs.declared.Course.{Course}
use Rattle.gather.specs.declared.Course.TheVariants.{Open, Stop, Set, Call, Back}

-- an operation names a register in flight
abbrev pub op_busy : Registers → Op → Bool
op_busy l o =
    ltb 0 (at l o.s1).busy || ltb 0 (at l o.s2).busy || ltb 0 (at l o.b).busy || ltb 0 (at l o.stored).busy
    || ltb 0 (at l o.t).busy || ltb 0 (at l o.carry).busy

-- where the operations so far go, if they decide it, else where the others do
abbrev pub next_from : ℕ → List Fired → Next → Next
next_from following [] others = others
next_from following (e ∷ es) others = next_by (turn_of e.op.way e.b (place following)) (next_from following es others)

-- the same, as the loop keeps it
abbrev pub turn_in : Course → Place → Turn
turn_in Open place = Onward
turn_in Stop place = Stops
turn_in Set place = To place
turn_in Call place = Calls place
turn_in Back place = BackTo

-- ---- what the pass goes by

-- the spots of one instruction: few, each in one of four clusters that is opened, and only the last is a last one
pub record Own (xs : List Spot) : Type 0 where
  pub few : length xs ≤ 32
  pub opened : (k : ℕ) → k < length xs → (0 < (get_or xs k nowhere).opened) × ((get_or xs k nowhere).opened ≤ 4)
  pub whole : (k : ℕ) → suc k < length xs → (get_or xs k nowhere).last ≡ false

-- every result takes 1 to 8 instructions
abbrev pub Timely : Delays → Type 0
Timely d = (o r : ℕ) → (0 < delay_of d o r) × (delay_of d o r ≤ 8)

-- at tick t register 0 is not in flight, and no other is unless it is said so
pub record Flying (flying : Bool) (t : ℕ) (rs : List Register) : Type 0 where
  pub nothing : (register_at rs 0).ready ≤ t
  pub others : flying ≡ false → (r : ℕ) → (register_at rs r).ready ≤ t

-- the opcodes of nop, stop, call, return, goto, br and brf
abbrev pub is_turn : ℕ → Bool
is_turn opcode = eqb opcode 0 || ltb 60 opcode

-- what decoding gives: registers, destinations only where the form has them, and a way only of control
pub record Formed (o : Op) : Type 0 where
  pub s1 : o.s1 < 288
  pub s2 : o.s2 < 288
  pub b : o.b < 288
  pub stored : o.stored < 288
  pub t : o.t < 288
  pub carry : o.carry < 288
  pub code : o.opcode < 64
  pub still : o.opcode ≡ 0 → (o.t ≡ 0) × (o.carry ≡ 0)
  pub single : 52 ≤ o.opcode → o.carry ≡ 0
  pub silent : 57 ≤ o.opcode → (o.opcode ≡ 60 → ⊥) → o.t ≡ 0
  pub along : is_turn o.opcode ≡ false → o.way ≡ Along

-- `opBusy` by the loop's registers at tick t, and `fire` of an operation with none in flight
abbrev pub named_late : ℕ → List Register → ℕ → Bool
named_late t rs r = not (eqb r 0) && ltb t (register_at rs r).ready

abbrev pub op_late : ℕ → List Register → Op → Bool
op_late t rs o =
    ltb t (register_at rs o.s1).ready || ltb t (register_at rs o.s2).ready || named_late t rs o.b || named_late t rs o.stored
    || ltb t (register_at rs o.t).ready || named_late t rs o.carry

abbrev pub fire_at : List Register → Op → Fired
fire_at rs o =
    record {
      op = o;
      x = (register_at rs o.s1).value;
      y = pick (eqb o.s2 0) o.immediate (register_at rs o.s2).value;
      b = (register_at rs o.b).value;
      stored = (register_at rs o.stored).value;
    }

-- ---- one operation

-- a result's destination, if it is not register 0
abbrev pub dest_in : Delays → ℕ → ℕ → List Dest → List Dest
dest_in d opcode r more = pick (eqb r 0) more (record { reg = r; delay = delay_of d opcode r } ∷ more)

-- what an operation computes from what it reads; a copy keeps its source
abbrev pub computed_of : ℕ → ℕ → ℕ → ℕ → ℕ
computed_of opcode x y z = pick (is_copy opcode) x (value opcode x y z)

-- an operation's values, of which v is the first
abbrev pub values_by : Fired → ℕ → List ℕ
values_by e v = value_in e.op.t v (value_in e.op.carry (carry e.x e.y e.b) [])

-- to the results ms at most `more` are added: those to es, with the values us
pub record Noted (more : ℕ) (ms ns : List Made) (es : List Dest) (us : List ℕ) : Type 0 where
  pub results : Results ns
  pub few : length ns ≤ length ms + more
  pub dests : dests_in ns ≡ dests_in ms ++ es
  pub values : values_in ns ≡ values_in ms ++ us

-- scratch holds results and stores, with a memory of m bytes
pub record Holds (m : ℕ) (a : Scratch) : Type 0 where
  pub results : Results a.results
  pub stores : Stores a.stores m

-- which are these destinations, values and stores
pub record Lists (ds : List Dest) (vs : List ℕ) (ss : List Store) (a : Scratch) : Type 0 where
  pub dests : dests_in a.results ≡ ds
  pub values : values_in a.results ≡ vs
  pub stores : a.stores ≡ ss

-- from s to r the operation is done, all but its busy registers; after a fault nothing is said of the lists
pub record Acts (d : Delays) (m : List ℕ) (j : ℕ) (e : Fired) (s : Seen) (a : Scratch) (r : Seen) (b : Scratch) : Type 0 where
  pub busy : r.busy ≡ s.busy
  pub fault : r.fault ≡ s.fault or_else fault_of (length m) (e ∷ [])
  pub next : (k : Next) → next_by (turn_in r.course r.place) k ≡ next_by (turn_in s.course s.place) (next_from j (e ∷ []) k)
  pub holds : Holds (length m) b
  pub few : length b.results ≤ length a.results + 2
  pub fewer : length b.stores ≤ length a.stores + 1
  pub lists : r.fault ≡ None
      → Lists (dests_in a.results ++ dests d (e.op ∷ [])) (values_in a.results ++ result_values m (e ∷ [])) (a.stores ++ stores_of (length m) (e ∷ [])) b

-- the same, if it is not late; where a register was in flight no more is said than what there is room for
pub record Does (late : Bool) (d : Delays) (m : List ℕ) (j : ℕ) (e : Fired) (s : Seen) (a : Scratch) (r : Seen) (b : Scratch) : Type 0 where
  pub busy : r.busy ≡ s.busy || late
  pub holds : Holds (length m) b
  pub few : length b.results ≤ length a.results + 2
  pub fewer : length b.stores ≤ length a.stores + 1
  pub acts : r.busy ≡ false → Acts d m j e s a r b

-- ---- the operations so far

abbrev pub fired : Registers → List Op → List Fired
fired l os = map (fire (map (λ (c : Cell). c.value) l)) os

-- what they came to, fired as es
pub record Came (d : Delays) (m : List ℕ) (j : ℕ) (os : List Op) (es : List Fired) (s : Seen) (a : Scratch) : Type 0 where
  pub fault : s.fault ≡ fault_of (length m) es
  pub next : (k : Next) → next_from j es k ≡ next_by (turn_in s.course s.place) k
  pub lists : s.fault ≡ None → Lists (dests d os) (result_values m es) (stores_of (length m) es) a

-- which is told only if none is late
pub record Gathered (late : Op → Bool) (firing : Op → Fired) (d : Delays) (m : List ℕ) (j : ℕ) (os : List Op) (s : Seen) (a : Scratch) : Type 0 where
  pub busy : s.busy ≡ any late os
  pub holds : Holds (length m) a
  pub few : length a.results ≤ 2 * length os
  pub fewer : length a.stores ≤ length os
  pub came : s.busy ≡ false → Came d m j os (map firing os) s a
