-- The registers of all clusters have numbers from 0: 256 general, then 32 branch registers.
use Rattle.std.specs.Prelude.{ℕ, ◌+◌, ◌*◌, eqb}
use Rattle.word.specs.Choice.{pick}

-- register r of cluster c
abbrev pub general_at : ℕ → ℕ → ℕ
general_at c r = c * 64 + r

abbrev pub branch : ℕ → ℕ → ℕ
branch c r = 256 + (c * 8 + r)

-- "General register 0 of each cluster reads zero, discards writes and is never in flight": to an operation they are one register, number 0,
-- which also stands for no register
abbrev pub general : ℕ → ℕ → ℕ
general c r = pick (eqb r 0) 0 (general_at c r)
