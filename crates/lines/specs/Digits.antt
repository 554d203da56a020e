-- Hexadecimal digits, "upper case": the bytes of 0 to 9 and A to F, read and written.
use Rattle.std.specs.Prelude.{Bool, ◌||◌, List, [], ◌∷◌, ◌++◌, ℕ, zero, suc, ◌+◌, ◌*◌, ◌-◌, ◌/◌, ◌%◌, ltb}
use Rattle.word.specs.Choice.{pick}
use Rattle.word.specs.Lists.{fold}
use Rattle.isa.specs.Syllable.{within}

abbrev pub is_digit : ℕ → Bool
is_digit b = within 48 57 b || within 65 70 b

abbrev pub digit_of : ℕ → ℕ
digit_of b = pick (ltb b 58) (b - 48) (b - 55)

-- the number of digits, the highest first, after what was read before them
abbrev pub number_from : ℕ → List ℕ → ℕ
number_from = fold (λ v b. v * 16 + digit_of b)

abbrev pub number_of : List ℕ → ℕ
number_of = number_from 0

abbrev pub digit : ℕ → ℕ
digit x = pick (ltb x 10) (48 + x) (55 + x)

-- the low n digits of a number, the highest first
abbrev pub hex : ℕ → ℕ → List ℕ
hex zero v = []
hex (suc n) v = hex n (v / 16) ++ (digit (v % 16) ∷ [])
