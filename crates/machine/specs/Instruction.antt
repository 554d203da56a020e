-- Document 01, "One instruction", of VEX: what an instruction does with the registers' values and the memory.
use Rattle.std.specs.Prelude.{Bool, List, [], ◌∷◌, ◌++◌, map, ℕ, eqb, get_or, length, Option, None, Some, Result}
use Rattle.word.specs.Choice.{pick}
use Rattle.word.specs.Bytes.{number_at}
use Rattle.ops.specs.Value.{value, carry, address, loaded, stored}
use Rattle.vliw.specs.Machine.{Out, fault, stop, go, Instruction}
use Rattle.vliw.specs.declared.Fault.{Fault}
use Rattle.vliw.specs.declared.Fault.TheVariants.{StoresClash, BadLink}
use Rattle.isa.specs.Program.{is_start, operations_at, following}
use Rattle.isa.specs.Touch.{reads, dests, nexts}
use Rattle.isa.specs.Control.{place, turn_of}
use Rattle.isa.specs.Syllable.{within, is_mem, is_copy}
use Rattle.isa.specs.declared.Turn.{Turn}
use Rattle.isa.specs.declared.Turn.TheVariants.{Onward, Stops, To, Calls, Back}
use Rattle.isa.specs.declared.Op.{Op}
use Rattle.isa.specs.declared.Delays.{Delays}
use Rattle.memory.specs.Memory.{size_of, access, fault_in, offset_in, ◌or_else◌, any_share}
use Rattle.memory.specs.declared.Store.{Store}
use Rattle.machine.specs.Link.{Memory, Change, storing, linking}

-- an operation with the values of what it reads: of s1, of s2 or the immediate, of b, and of the register that a store stores
pub record Fired : Type 0 where
  pub op : Op
  pub x : ℕ
  pub y : ℕ
  pub b : ℕ
  pub stored : ℕ

-- "General register 0 of each cluster reads zero": where s2 is register 0 the immediate stands in, which is 0 unless s2 is an immediate
abbrev pub fire : List ℕ → Op → Fired
fire f o =
    record {
      op = o;
      x = get_or f o.s1 0;
      y = pick (eqb o.s2 0) o.immediate (get_or f o.s2 0);
      b = get_or f o.b 0;
      stored = get_or f o.stored 0;
    }

abbrev pub is_load : Op → Bool
is_load o = within 52 56 o.opcode

abbrev pub is_store : Op → Bool
is_store o = within 57 59 o.opcode

abbrev pub address_of : Fired → ℕ
address_of e = address e.x e.op.offset

-- where its access goes in a memory of so many bytes
abbrev pub access_of : ℕ → Fired → Result ℕ Fault
access_of length e = access length (size_of e.op.opcode) (address_of e)

-- the first result: of a load what is loaded, of a copy its source, of others the operation's value
abbrev pub result_of : List ℕ → Fired → ℕ
result_of m e =
    pick (is_load e.op) (loaded e.op.opcode (number_at (size_of e.op.opcode) (offset_in (access_of (length m) e)) m))
    (pick (is_copy e.op.opcode) e.x (value e.op.opcode e.x e.y e.b))

-- a value for each destination that is not register 0, addcg's sum before its carry
abbrev pub value_in : ℕ → ℕ → List ℕ → List ℕ
value_in register v more = pick (eqb register 0) more (v ∷ more)

abbrev pub result_values : List ℕ → List Fired → List ℕ
result_values m [] = []
result_values m (e ∷ es) =
    let more = result_values m es in
    value_in e.op.t (result_of m e) (value_in e.op.carry (carry e.x e.y e.b) more)

abbrev pub stores_of : ℕ → List Fired → List Store
stores_of length [] = []
stores_of length (e ∷ es) =
    let more = stores_of length es in
    let s : Store = record { at = offset_in (access_of length e); size = size_of e.op.opcode; value = stored e.op.opcode e.stored } in
    pick (is_store e.op) (s ∷ more) more

abbrev pub access_fault : ℕ → Fired → Option Fault
access_fault length e = pick (is_mem e.op.opcode) (fault_in (access_of length e)) None

-- "syllable by syllable, 12 before 13"
abbrev pub fault_of : ℕ → List Fired → Option Fault
fault_of length [] = None
fault_of length (e ∷ es) = access_fault length e or_else fault_of length es

-- where it goes on: the one control syllable decides; nothing where it stops
pub data Next : Type 0 where
  at : ℕ → Next
  calls : ℕ → Next
  back : Next
  stops : Next

abbrev pub next_by : Turn → Next → Next
next_by Onward others = others
next_by Stops others = stops
next_by (To target) others = at target.0
next_by (Calls target) others = calls target.0
next_by Back others = back

abbrev pub next_of : ℕ → List Fired → Next
next_of following [] = at following
next_of following (e ∷ es) = next_by (turn_of e.op.way e.b (place following)) (next_of following es)

abbrev pub faulted : Option Fault → Out Change → Out Change
faulted None otherwise = otherwise
faulted (Some f) otherwise = fault f

-- "all operands and loaded bytes are read before anything is written": 12 and 13, then 14, then the results, the stores and what becomes of
-- the link
abbrev pub goes_on : List Change → ℕ → List ℕ → List Fired → Out Change
goes_on links j m es =
    let ss = stores_of (length m) es in
    faulted (fault_of (length m) es) (pick (any_share ss) (fault StoresClash) (go (result_values m es) (map storing ss ++ links) j))

-- "call .. sets the link register to the index of the instruction after it .. ; return goes to it"; 17: "link register not an instruction's
-- first syllable when return runs, after 11 and before 12"
abbrev pub out_by : (ℕ → Bool) → ℕ → Next → Memory → List Fired → Out Change
out_by starts following stops m es = stop
out_by starts following (at j) m es = goes_on [] j m.bytes es
out_by starts following (calls j) m es = goes_on (linking following ∷ []) j m.bytes es
out_by starts following back m es = pick (starts m.link) (goes_on [] m.link m.bytes es) (fault BadLink)

unfoldable pub acts : (ℕ → Bool) → ℕ → List Op → List ℕ → Memory → Out Change
acts starts following os f m = let es = map (fire f) os in out_by starts following (next_of following es) m es

-- a program as the abstract machine's instructions
abbrev pub instruction_of : Delays → List ℕ → ℕ → Instruction Memory Change
instruction_of d program i =
    let os = operations_at program i in
    let j = following program i in
    record { reads = reads os; dests = dests d os; nexts = nexts j os; acts = acts (is_start program) j os }
