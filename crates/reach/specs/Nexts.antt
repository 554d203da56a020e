-- Document 01, "Schedule rule", of a program: the nexts of the instruction at a place.
use Rattle.std.specs.Prelude.{List, ℕ}
use Rattle.isa.specs.Program.{operations_at, following}
use Rattle.isa.specs.Touch.{nexts}

abbrev pub nexts_at : List ℕ → ℕ → List ℕ
nexts_at program i = nexts (following program i) (operations_at program i)
