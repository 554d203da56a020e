-- Private to the run's loop; nobody has to believe it: what the loop promises is said in the definitions of crate vliw.
-- In the loop a register is four numbers: the last result made, the value that it replaced, and the ticks at which busy reaches 0 and at which it lands.
-- A tick is an instruction executed in this call. Value, waiting, busy and landing are computed at a tick, so nothing is stored when time passes.
use Rattle.std.specs.Prelude.{◌≡◌, ◌≢◌, ℕ, ◌+◌, ◌-◌, ◌≤◌, ◌<◌, ltb, length, get_or, drop, All}
use mathlib.Core.List.{List, [], ◌∷◌, map, Memᴰ, Pairwise}
use Rattle.word.specs.Choice.{pick}
use Rattle.vliw.specs.Cell.{Cell, Registers, written_of, choose}
use Rattle.vliw.specs.Machine.{Dest}
use Rattle.ticks.specs.declared.Register.{Register}
use Rattle.ticks.specs.declared.Made.{Made}

abbrev pub blank : Register
blank = record { value = 0; old = 0; ready = 0; land = 0 }

abbrev pub register_at : List Register → ℕ → Register
register_at rs r = get_or rs r blank

-- a register at tick t: as a result over the value that it replaced leaves it, with the counts that are left
abbrev pub view_of : ℕ → Register → Cell
view_of t r = written_of r.old r.value (r.ready - t) (r.land - t)

abbrev pub views : ℕ → List Register → Registers
views t rs = map (view_of t) rs

-- the value and the waiting value of a register at tick t
abbrev pub value_at : ℕ → Register → ℕ
value_at t r = pick (ltb t r.land) r.old r.value

abbrev pub waiting_at : ℕ → Register → ℕ
waiting_at t r = pick (ltb t r.land) r.value 0

-- the registers at tick t: landing is at most busy, and busy at most 7
pub record Bank (t : ℕ) (rs : List Register) : Type 0 where
  pub size : length rs ≡ 288
  pub low : (q : ℕ) → (register_at rs q).land ≤ (register_at rs q).ready
  pub soon : (q : ℕ) → (register_at rs q).ready ≤ t + 7

-- of those that are busy at tick t none is from tick `free` on
abbrev pub Freed : ℕ → ℕ → List Register → Type 0
Freed t free rs = (q : ℕ) → t < (register_at rs q).ready → (register_at rs q).ready ≤ free

-- the ticks at which busy reaches 0
abbrev pub ready_ticks : List Register → List ℕ
ready_ticks rs = map (λ (r : Register). r.ready) rs

-- the later of a tick and those of a list
abbrev pub latest : ℕ → List ℕ → ℕ
latest t [] = t
latest t (r ∷ rs) = latest (pick (ltb t r) r t) rs

-- what validity says of a register and its counts
pub record Fit (c : Cell) : Type 0 where
  pub low : c.landing ≤ c.busy
  pub soon : c.busy ≤ 7
  pub settled : c.landing ≡ 0 → c.waiting ≡ 0

-- the results of an instruction, in order: destinations and values
abbrev pub dest_of : Made → Dest
dest_of m = record { reg = m.register; delay = m.delay }

abbrev pub dests_in : List Made → List Dest
dests_in ms = map dest_of ms

abbrev pub values_in : List Made → List ℕ
values_in ms = map (λ (m : Made). m.value) ms

abbrev pub nothing_made : Made
nothing_made = record { register = 0; value = 0; delay = 0 }

abbrev pub made_at : List Made → ℕ → Made
made_at ms k = get_or ms k nothing_made

-- each is for one of the registers, and takes 1 to 8 instructions
pub record Results (ms : List Made) : Type 0 where
  pub few : length ms ≤ 64
  pub register : All (λ (m : Made). m.register < 288) ms
  pub delay : All (λ (m : Made). (0 < m.delay) × (m.delay ≤ 8)) ms

-- each is for a register of its own, which has landed at tick t
pub record Clear (t : ℕ) (rs : List Register) (ds : List Dest) : Type 0 where
  pub landed : (d : Dest) → Memᴰ d ds → (register_at rs d.reg).land ≤ t
  pub apart : Pairwise (λ (d e : Dest). d.reg ≢ e.reg) ds

-- what is asked of the landing that each result is given, by its index and its delay, and what is answered: it may be asked, it is below the
-- delay, and it is the one that these landing bytes choose
abbrev pub Asked : (ℕ → ℕ → Type 0) → List Made → Type 0
Asked pre ms = (k : ℕ) → k < length ms → pre k (made_at ms k).delay

abbrev pub InTime : (ℕ → ℕ → ℕ → Type 0) → List Made → Type 0
InTime post ms = (k d : ℕ) → k < length ms → post k (made_at ms k).delay d → d < (made_at ms k).delay

abbrev pub Chosen : (ℕ → ℕ → ℕ → Type 0) → List Made → List ℕ → Type 0
Chosen post ms bs = (k d : ℕ) → k < length ms → post k (made_at ms k).delay d → d ≡ choose (made_at ms k).delay (drop k bs)
