-- Private to the search, nobody has to believe it: what the search relies on in a program that loads.
use Rattle.std.specs.Prelude.{◌≡◌, true, ℕ, ◌≤◌, ◌<◌, length}
use mathlib.Core.List.{List, Memᴰ}
use Rattle.isa.specs.Program.{spot_at, is_start, instruction_at}
use Rattle.reach.specs.Nexts.{nexts_at}

-- what loading has tested: clusters, sizes and targets
pub record Laid (program : List ℕ) : Type 0 where
  pub clusters : (j : ℕ) → j < length program → (spot_at program j).opened ≤ 4
  pub short : (i : ℕ) → is_start program i ≡ true → length (instruction_at program i) ≤ 32
  pub onward : (i : ℕ) {t : ℕ} → is_start program i ≡ true → Memᴰ t (nexts_at program i) → is_start program t ≡ true
