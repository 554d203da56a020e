-- The notions that the laws speak in: the integer that bits stand for, quotient and remainder, a single bit, an answer of 1 or 0.
use Rattle.std.specs.Prelude.{◌≡◌, ◌⊎◌, Bool, ℕ, suc, ◌-◌, ◌/◌, ◌%◌, ◌^◌, ◌<◌, eqb, ltb, ℤ, pos, negsuc, ◌+ℤ◌, ◌*ℤ◌}
use Rattle.word.specs.Choice.{pick}

-- the integer that k bits stand for in two's complement; negsuc n is -(n + 1)
abbrev pub signed : ℕ → ℕ → ℤ
signed k x = pick (ltb x (2 ^ (k - 1))) (pos x) (negsuc (2 ^ k - suc x))

-- z is quotient times m plus remainder, and the remainder is one of 0 to m - 1
pub record Divided (z : ℤ) (m : ℕ) (quotient : ℤ) (remainder : ℕ) : Type 0 where
  pub sum : z ≡ quotient *ℤ pos m +ℤ pos remainder
  pub less : remainder < m

-- v is z modulo m
pub record Modulo (m : ℕ) (z : ℤ) (v : ℕ) : Type 0 where
  pub quotient : ℤ
  pub divided : Divided z m quotient v

-- q is z divided by m, rounded down
pub record Floor (m : ℕ) (z q : ℤ) : Type 0 where
  pub remainder : ℕ
  pub divided : Divided z m q remainder

abbrev pub bit_at : ℕ → ℕ → Bool
bit_at i x = eqb (x / 2 ^ i % 2) 1

-- v is 1 if P holds, and 0 if not
abbrev pub Tells : Type 0 → ℕ → Type 0
Tells P v = ((v ≡ 1) × P) ⊎ ((v ≡ 0) × (P → ⊥))
