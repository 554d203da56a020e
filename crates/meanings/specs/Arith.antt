-- Words are numbers below 2^32. "All register arithmetic is modulo 2^32. Signed means two's complement."
-- What looks like a trick here has its plain meaning on integers in Laws.antt.
use Rattle.std.specs.Prelude.{Bool, ℕ, ◌+◌, ◌-◌, ◌/◌, ◌%◌, ◌^◌, ltb}
use Rattle.word.specs.Choice.{pick}

abbrev pub wrap : ℕ → ℕ
wrap x = x % 2 ^ 32

-- every bit turned
abbrev pub inverse : ℕ → ℕ
inverse x = (2 ^ 32 - 1) - x

-- less as signed numbers: less with 2^31 added to both
abbrev pub below : ℕ → ℕ → Bool
below x y = ltb ((x + 2 ^ 31) % 2 ^ 32) ((y + 2 ^ 31) % 2 ^ 32)

-- shifted right with the sign kept: a negative number is shifted as its inverse
abbrev pub shifted : ℕ → ℕ → ℕ
shifted x k = pick (ltb x (2 ^ 31)) (x / 2 ^ k) (inverse (inverse x / 2 ^ k))

-- the halves
abbrev pub low : ℕ → ℕ
low x = x % 2 ^ 16

abbrev pub high : ℕ → ℕ
high x = x / 2 ^ 16
