-- A run keeps validity.
use mathlib.Core.Path.{◌≡◌, refl, ◌∙◌}
use mathlib.Core.Bool.{Bool, true}
use mathlib.Core.List.{List, [], ◌∷◌, ◌++◌, map}
use Prim.Native.Nat.{ℕ, zero, suc, ◌/◌, ◌^◌, ◌≤◌, ◌<◌}
use native.Mathlib.Nat.{mod-lt}
use native.Mathlib.Omega.{arith}
use lib.ListN.{length, length-map}
use Rattle.word.specs.Bytes.{AreBytes, put_number}
use Rattle.vliw.specs.Run.{Step, run}
use Rattle.vliw.specs.Cell.{Cell, Registers, aged, rested}
use Rattle.vliw.specs.Machine.{Dest, Out, fault, stop, go, Instruction, uses, any_busy, writes, in_order, Situation, stores, finish, step}
use Rattle.vliw.specs.declared.Fault.{Fault}
use Rattle.vliw.specs.declared.Fault.TheVariants.{StoresClash, BadLink}
use Rattle.vliw.proofs.Lists.{set_each}
use Rattle.vliw.proofs.Runs.{Keeps, run_ends}
use Rattle.vliw.proofs.Flight.{arrives}
use Rattle.isa.specs.Program.{is_start, following, operations_at}
use Rattle.isa.specs.declared.Table.{Table}
use Rattle.isa.proofs.Steps.{either_way}
use Rattle.isa.proofs.Instructions.{start_inside, following_within}
use Rattle.tables.specs.Bounds.{Bounds}
use Rattle.tables.proofs.Bounds.{delay_bounds}
use Rattle.loader.specs.Passed.{Passed}
use Rattle.std.specs.Prelude.{Option, None, Some}
use Rattle.memory.specs.Memory.{any_share}
use Rattle.memory.specs.declared.Store.{Store}
use Rattle.machine.specs.Link.{Memory, Change, storing, linking, change}
use Rattle.machine.specs.Instruction.{Fired, fire, result_values, stores_of, fault_of, Next, calls, back, stops, next_of, faulted, goes_on, out_by, acts, instruction_of}
use Rattle.machine.specs.Instruction.{at as goes_to}
use Rattle.machine.proofs.Images.{AllSmall}
use Rattle.machine.proofs.Validity.{AllValid}
use Rattle.machine.proofs.Written.{AllWhole, to_whole, whole_small, whole_valid, all_aged, all_rested, AllTake, all_written, written_length}
use Rattle.machine.proofs.Aimed.{Aimed, aimed, all_take}
use Rattle.call.proofs.Instance.{each_decoded, loaded_machine}

-- what every state of a run has
pub record Fine (p : List ℕ) (s : Situation Memory Change) : Type 0 where
  pub start : is_start p s.place ≡ true
  pub long : length s.registers ≡ 288
  pub small : AllSmall s.registers
  pub valid : AllValid s.registers
  pub memory : AreBytes s.memory.bytes
  pub link : s.memory.link < 2 ^ 32

whole_fine : {p : List ℕ} (s : Situation Memory Change) → is_start p s.place ≡ true → length s.registers ≡ 288
    → AllWhole s.registers → AreBytes s.memory.bytes → s.memory.link < 2 ^ 32 → Fine p s
whole_fine s start long whole memory link =
    record { start = start; long = long; small = whole_small s.registers whole; valid = whole_valid s.registers whole; memory = memory; link = link }

-- ---- stores leave bytes

put_bytes : (n at v : ℕ) (m : List ℕ) → AreBytes m → AreBytes (put_number n at v m)
put_bytes zero at v m h = h
put_bytes (suc n) at v m h = put_bytes n (suc at) v _ (set_each (λ i b. b < 256) m at _ 0 (mod-lt (v / 256 ^ n) (omega arith)) h)

-- the links that an instruction sets are words
abbrev LowLinks : List Change → Type 0
LowLinks [] = Unit {0}
LowLinks (storing s ∷ cs) = LowLinks cs
LowLinks (linking i ∷ cs) = (i < 2 ^ 32) × LowLinks cs

low_stores : (ss : List Store) (cs : List Change) → LowLinks cs → LowLinks (map storing ss ++ cs)
low_stores [] cs h = h
low_stores (s ∷ ss) cs h = low_stores ss cs h

changed : (cs : List Change) (m : Memory) → LowLinks cs → AreBytes m.bytes → m.link < 2 ^ 32 → AreBytes (stores change cs m).bytes × ((stores change cs m).link < 2 ^ 32)
changed [] m low h k = (h, k)
changed (storing s ∷ cs) m low h k = changed cs (change (storing s) m) low (put_bytes s.size s.at s.value m.bytes h) k
changed (linking i ∷ cs) m (low, more) h k = changed cs (change (linking i) m) more h low

-- ---- an instruction

-- where it goes on, its destinations take its values, and a link that it sets is a word
abbrev Took : List Dest → Out Change → Type 0
Took ds (fault f) = Unit {0}
Took ds stop = Unit {0}
Took ds (go vs cs j) = AllTake ds vs × LowLinks cs

module _ (ds : List Dest) (m : Memory) (es : List Fired) (h : AllTake ds (result_values m.bytes es)) where
  took_on : (cs : List Change) (k : ℕ) → LowLinks cs → Took ds (goes_on cs k m.bytes es)
  took_on cs k low =
      let ss = stores_of (length m.bytes) es in
      by (fault_of (length m.bytes) es) _ (either_way (Took ds) (any_share ss) (fault StoresClash) (go (result_values m.bytes es) (map storing ss ++ cs) k) tt (h, low_stores ss cs low))
    where
      by : (f : Option Fault) (otherwise : Out Change) → Took ds otherwise → Took ds (faulted f otherwise)
      by None o t = t
      by (Some f) o t = tt

  took : (starts : ℕ → Bool) (j : ℕ) → j < 2 ^ 32 → (n : Next) → Took ds (out_by starts j n m es)
  took starts j low stops = tt
  took starts j low (goes_to k) = took_on [] k tt
  took starts j low (calls k) = took_on (linking j ∷ []) k (low, tt)
  took starts j low back = either_way (Took ds) (starts m.link) _ (fault BadLink) (took_on [] m.link tt) tt

module _ {table : Table} {p : List ℕ} (ok : Passed table p) (bounds : Bounds table) (short : length p ≤ 4096) where
  abbrev program : ℕ → Instruction Memory Change
  program = instruction_of table.delays p

  acts_took : (i : ℕ) → is_start p i ≡ true → (l : Registers) → AllWhole l → (m : Memory) → AreBytes m.bytes
      → Took (program i).dests ((program i).acts (map (λ (c : Cell). c.value) l) m)
  unfolding acts
  acts_took i s l whole m memory =
      let os = operations_at p i in
      let es = map (fire (map (λ (c : Cell). c.value) l)) os in
      let values = all_take l whole m.bytes memory table.delays (delay_bounds table bounds) os (each_decoded ok bounds Aimed aimed i s) in
      took _ m es values (is_start p) (following p i) (omega (arith, following_within p i (start_inside p i s))) (next_of (following p i) es)

  -- ---- a step

  module _ (s : Situation Memory Change) (order : s.orders ≡ in_order) (fine : Fine p s) where
    abbrev Kept : Step (Situation Memory Change) → Type 0
    Kept = Keeps (λ t. (t.orders ≡ in_order) × Fine p t) (λ e t. Fine p t)

    whole : AllWhole s.registers
    whole = to_whole s.registers fine.long fine.small fine.valid

    finished : (out : Out Change) → (program s.place).acts (map (λ (c : Cell). c.value) s.registers) s.memory ≡ out
        → Took (program s.place).dests out → Kept (finish change (program s.place) s out)
    finished (fault f) e t = fine
    finished stop e t =
        whole_fine _ fine.start (length-map s.registers rested ∙ fine.long) (all_rested s.registers whole) fine.memory fine.link
    finished (go vs ss j) e (t, low) =
        let here = loaded_machine ok bounds in
        let l = map aged s.registers in
        let start = arrives here fine.start (here.goes s.place _ s.memory vs ss j fine.start e) in
        let long = written_length (writes (program s.place).dests vs s.landing) l ∙ length-map s.registers aged ∙ fine.long in
        let now = all_written t s.landing l (all_aged s.registers whole) in
        let (bytes, link) = changed ss s.memory low fine.memory fine.link in
        rw order (refl, whole_fine _ start long now bytes link)

    stepped : Kept (step change program s)
    stepped =
        either_way Kept (any_busy (uses (program s.place)) s.registers) _ _ fine
        (finished _ refl (acts_took s.place fine.start s.registers whole s.memory fine.memory))

-- ---- a run

pub stays : {table : Table} {p : List ℕ} → Passed table p → Bounds table → length p ≤ 4096 → (n : ℕ) (s : Situation Memory Change) → s.orders ≡ in_order → Fine p s
    → Fine p (run (step change (instruction_of table.delays p)) n s).state
stays {table} {p} ok bounds short n s order fine =
    run_ends (λ t. (t.orders ≡ in_order) × Fine p t) (λ e t. Fine p t) (step change (instruction_of table.delays p))
    (λ t (o, f). stepped ok bounds short t o f) (λ t (o, f). f) n s (order, fine)
