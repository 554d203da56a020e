-- Private to the search, nobody has to believe it: what the search relies on in the syllables of an instruction by themselves.
use Rattle.std.specs.Prelude.{List, ℕ, ◌≤◌, ◌<◌, length}
use Rattle.isa.specs.Program.{spot_at}

-- what loading has tested: clusters and size
pub record Decodable (w : List ℕ) : Type 0 where
  pub clusters : (j : ℕ) → j < length w → (spot_at w j).opened ≤ 4
  pub short : length w ≤ 32
