-- From line to line: how many syllables stand above a line, and how far the instruction that is open there has come.
use Rattle.std.specs.Prelude.{Bool, true, false, not, ◌&&◌, ◌||◌, List, ℕ, suc, ◌+◌, ◌-◌, eqb, ltb}
use Rattle.std.proofs.Math.Option.{Option, none, some}
use Rattle.word.specs.Choice.{pick}
use Rattle.word.specs.Lists.{fold}
use Rattle.operations.specs.Meaning.{Said}
use Rattle.source.specs.Heard.{Heard, says, unread}

pub record Walk : Type 0 where
  -- syllables so far
  pub count : ℕ
  -- clusters that the open instruction has opened; 0 where none is open
  pub opened : ℕ

abbrev pub start : Walk
start = record { count = 0; opened = 0 }

abbrev pub is_some : {A : Type 0} → Option A → Bool
is_some none = false
is_some (some a) = true

-- "A label while an instruction is open is 18"
abbrev pub inside : Walk → Option (List ℕ) → Bool
inside w given = is_some given && ltb 0 w.opened

-- "a `;;` with nothing since the last one is 18"
abbrev pub empty : Walk → Option Said → Bool → Bool
empty w does ends = ends && not (is_some does) && eqb w.opened 0

-- "Within an instruction the cluster never falls below that of its last operation"
abbrev pub falls : Walk → Option Said → Bool
falls w none = false
falls w (some s) = ltb (suc s.cluster) w.opened

-- 18: a line that is not as it should be, or whose label, `;;` or operation stands where none may
abbrev pub refused : Walk → Heard → Bool
refused w (unread given) = true
refused w (says given does ends) = inside w given || empty w does ends || falls w does

-- "A cluster without an operation below one that has some gets a nop"
abbrev pub idle : Walk → Said → ℕ
idle w s = s.cluster - w.opened

abbrev pub operated : Walk → Option Said → Walk
operated w none = w
operated w (some s) = record { count = w.count + (idle w s + 1); opened = suc s.cluster }

abbrev pub ended : Bool → Walk → Walk
ended false w = w
ended true w = record { count = w.count; opened = 0 }

-- "Of a line with 18 nothing counts but a label"
abbrev pub heeded : Walk → Heard → Walk
heeded w (unread given) = w
heeded w (says given does ends) = ended ends (operated w does)

abbrev pub step : Walk → Heard → Walk
step w h = pick (refused w h) w (heeded w h)

abbrev pub walked : Walk → List Heard → Walk
walked = fold step
