-- Private to the run's loop, nobody has to believe it: the stores of an instruction, as they are held until everything is read.
use Rattle.std.specs.Prelude.{◌≡◌, List, ℕ, ◌+◌, ◌≤◌, ◌<◌, All}
use Rattle.memory.specs.declared.Store.{Store}

-- an access is of 1, 2 or 4 bytes, said so that arithmetic reads it
pub record Width (n : ℕ) : Type 0 where
  pub some : 0 < n
  pub few : n ≤ 4
  pub three : n ≡ 3 → ⊥

-- n bytes at an offset, within a memory of m
pub record Within (at n m : ℕ) : Type 0 where
  pub width : Width n
  pub inside : n + at ≤ m

-- each is within a memory of m bytes
abbrev pub Stores : List Store → ℕ → Type 0
Stores ss m = All (λ (s : Store). Within s.at s.size m) ss
