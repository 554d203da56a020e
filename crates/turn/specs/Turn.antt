-- Private to the run's loop, nobody has to believe it: the machine's situation as the loop holds it at a tick, and what one turn makes of it.
use Rattle.std.specs.Prelude.{◌≡◌, Bool, true, false, not, ◌&&◌, ℕ, ◌+◌, ◌^◌, ◌≤◌, ◌<◌, ltb, length, drop, Option, None, Some, Result, Ok, Err, ⊤}
use mathlib.Core.List.{List, map, Memᴰ}
use Rattle.word.specs.Choice.{pick}
use Rattle.word.specs.Lists.{any_below, count}
use Rattle.vliw.specs.Run.{ends, next}
use Rattle.vliw.specs.Cell.{Registers, rested}
use Rattle.vliw.specs.Cell.{at as cell_at}
use Rattle.vliw.specs.Machine.{Situation, in_order, step}
use Rattle.vliw.specs.Demand3.{WellFormed}
use Rattle.vliw.specs.declared.Ending.{Ending}
use Rattle.vliw.specs.declared.Ending.TheVariants.{Paused, Stopped, Faulted}
use Rattle.vliw.specs.declared.Fault.TheVariants.{InFlight, StoresClash, BadLink}
use Rattle.isa.specs.Control.{controls}
use Rattle.isa.specs.Program.{is_start, instruction_at, following, operations_at}
use Rattle.isa.specs.declared.Delays.{Delays}
use Rattle.isa.specs.declared.Op.{Op}
use Rattle.isa.specs.declared.Place.{Place}
use Rattle.isa.specs.declared.Way.TheVariants as way
use Rattle.vliw.specs.declared.Fault.{Fault}
use Rattle.machine.specs.Link.{Memory, Change, memory_of, change}
use Rattle.machine.specs.Instruction.{instruction_of}
use Rattle.ticks.specs.Ticks.{register_at, views, Bank, Freed}
use Rattle.ticks.specs.declared.Register.{Register}
use Rattle.gather.specs.Gather.{Own, Timely}
use Rattle.gather.specs.declared.Seen.{Seen}
use Rattle.gather.specs.declared.Course.{Course}
use Rattle.gather.specs.declared.Course.TheVariants.{Open, Stop, Set, Call, Back}
use Rattle.turn.specs.declared.Link.{Link}
use Rattle.turn.specs.declared.Point.{Point}

-- `landing` is all the call's landing bytes, of which `used` are taken
abbrev pub situation_at : ℕ → Registers → Memory → List ℕ → ℕ → Situation Memory Change
situation_at place registers memory landing used =
    record { place = place; registers = registers; memory = memory; landing = drop used landing; orders = in_order }

abbrev pub at_rest : Situation Memory Change → Situation Memory Change
at_rest s =
    record { place = s.place; registers = map rested s.registers; memory = s.memory; landing = s.landing; orders = s.orders }

-- what an ending leaves: a stop is at rest
abbrev pub ended_by : Ending → Situation Memory Change → Situation Memory Change
ended_by Paused s = s
ended_by Stopped s = at_rest s
ended_by (Faulted f) s = s

-- some register is busy at tick t
abbrev pub any_late : ℕ → List Register → Bool
any_late t rs = any_below (λ r. ltb t (register_at rs r).ready) 288

-- what stands against an instruction, from what was gathered, and whether two of its stores share a byte
abbrev pub is_stop : Course → Bool
is_stop Open = false
is_stop Stop = true
is_stop Set = false
is_stop Call = false
is_stop Back = false

-- a call or a return
abbrev pub links : Course → Bool
links Open = false
links Stop = false
links Set = false
links Call = true
links Back = true

abbrev pub goes_back : Course → Bool
goes_back Open = false
goes_back Stop = false
goes_back Set = false
goes_back Call = false
goes_back Back = true

-- it goes back, and no instruction starts there
abbrev pub is_lost : Course → Link → Bool
is_lost course link = goes_back course && not link.starts

-- where an instruction that j follows and that does not stop goes on
abbrev pub goal_of : Course → Place → Place → Link → Place
goal_of Open place j link = j
goal_of Stop place j link = j
goal_of Set place j link = place
goal_of Call place j link = place
goal_of Back place j link = link.place

-- the link after it
abbrev pub link_after : Course → Link → Place → Link
link_after Open link j = link
link_after Stop link j = link
link_after Set link j = link
link_after Call link j = record { place = j; starts = true }
link_after Back link j = link

abbrev pub halt_shared : Bool → Result ⊤ Ending
halt_shared shared = pick shared (Err (Faulted StoresClash)) (Ok tt)

abbrev pub halt_fault : Option Fault → Bool → Result ⊤ Ending
halt_fault (Some f) shared = Err (Faulted f)
halt_fault None shared = halt_shared shared

-- `late`: some register is in flight
abbrev pub halt_of : Seen → Bool → Link → Bool → Result ⊤ Ending
halt_of s late link shared =
    pick s.busy (Err (Faulted InFlight))
    (pick (is_stop s.course) (Err Stopped)
    (pick (links s.course && late) (Err (Faulted InFlight))
    (pick (is_lost s.course link) (Err (Faulted BadLink)) (halt_fault s.fault shared))))

-- what loading gives the loop
pub record Runs (d : Delays) (program : List ℕ) : Type 0 where
  pub loaded : WellFormed change (instruction_of d program) (is_start program)
  pub timely : Timely d
  pub own : (i : ℕ) → is_start program i ≡ true → Own (instruction_at program i)
  pub short : length program ≤ 4096
  pub single : (i : ℕ) → is_start program i ≡ true → count (λ o. controls o.way) (operations_at program i) ≤ 1
  pub calls : (i : ℕ) (o : Op) {t : Place} → is_start program i ≡ true → Memᴰ o (operations_at program i) → o.way ≡ way.Call t
      → is_start program (following program i) ≡ true

-- the registers at tick t, where a run stands; none of those that are busy is from tick `free` on
pub record Running (t : ℕ) (program : List ℕ) (at : Point) (rs : List Register) : Type 0 where
  pub bank : Bank t rs
  pub freed : Freed t at.free.0 rs
  pub linked : at.link.starts ≡ is_start program at.link.place.0
  pub low : at.link.place.0 < 2 ^ 32
  pub start : is_start program at.place.0 ≡ true
  pub idle : (cell_at (views t rs) 0).busy ≡ 0

-- the memory of the machine, from the loop's bytes and link
abbrev pub beside : List ℕ → Link → Memory
beside bytes link = memory_of bytes link.place.0

-- one turn at tick t, from s: it went on, and took at most 64 landing bytes
pub record Moved (d : Delays) (program landing : List ℕ) (t : ℕ) (at : Point) (s : Situation Memory Change) (to : Point) (rs : List Register) (m : List ℕ) : Type 0 where
  pub onward : at.used ≤ to.used
  pub few : to.used ≤ at.used + 64
  pub running : Running (t + 1) program to rs
  pub is : step change (instruction_of d program) s ≡ next (situation_at to.place.0 (views (t + 1) rs) (beside m to.link) landing to.used)

-- or it ended the run, where it stood
pub record Halted (d : Delays) (program landing : List ℕ) (t : ℕ) (at : Point) (s : Situation Memory Change) (e : Ending) (rs : List Register) (m : List ℕ) : Type 0 where
  pub running : Running t program at rs
  pub is : step change (instruction_of d program) s ≡ ends e (ended_by e (situation_at at.place.0 (views t rs) (beside m at.link) landing at.used))

abbrev pub Turned : Delays → List ℕ → List ℕ → ℕ → Point → Situation Memory Change → Result Point Ending → List Register → List ℕ → Type 0
Turned d program landing t at s (Ok to) rs m = Moved d program landing t at s to rs m
Turned d program landing t at s (Err e) rs m = Halted d program landing t at s e rs m
