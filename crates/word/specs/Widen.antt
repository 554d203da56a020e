-- "widened by sign": immediates, offsets, short loads and the signed halves.
use Rattle.std.specs.Prelude.{ℕ, ◌+◌, ◌-◌, ◌%◌, ◌^◌, ltb}
use Rattle.word.specs.Choice.{pick}

-- the low k bits, widened by sign to 32
abbrev pub widen : ℕ → ℕ → ℕ
widen k x = let low = x % 2 ^ k in pick (ltb low (2 ^ (k - 1))) low (low + (2 ^ 32 - 2 ^ k))
