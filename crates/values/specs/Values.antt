-- Values: whole numbers from -2^31 to 2^31 - 1, at each step. Arithmetic of whole numbers is that of differences of natural ones.
use Rattle.std.specs.Prelude.{◌&&◌, List, [], ◌∷◌, ℕ, ◌+◌, ◌*◌, ◌-◌, leb, ltb, Result, Ok, Err}
use Rattle.word.specs.Choice.{pick}
use Rattle.values.specs.declared.Fault.{Fault}
use Rattle.values.specs.declared.Fault.TheVariants.{Missing, Outside}

-- a whole number, or why there is none
abbrev pub Value : Type 0
Value = Result ℕ Fault

-- the whole number plus - minus
pub record Whole : Type 0 where
  pub plus : ℕ
  pub minus : ℕ

abbrev pub add : Whole → Whole → Whole
add a b = record { plus = a.plus + b.plus; minus = a.minus + b.minus }

abbrev pub sub : Whole → Whole → Whole
sub a b = record { plus = a.plus + b.minus; minus = a.minus + b.plus }

abbrev pub mul : Whole → Whole → Whole
mul a b = record { plus = a.plus * b.plus + a.minus * b.minus; minus = a.plus * b.minus + a.minus * b.plus }

abbrev pub half : ℕ
half = 2147483648

-- a value holds v + 2^31: `Ok n` is the whole number n - 2^31
abbrev pub whole : ℕ → Whole
whole n = record { plus = n; minus = half }

-- "outside -2^31 to 2^31 - 1 is 20"
abbrev pub within : ℕ → ℕ → Value
within p m = pick (leb m (p + half) && ltb p (m + half)) (Ok (p + half - m)) (Err Outside)

abbrev pub held : Whole → Value
held w = within w.plus w.minus

-- a label that no line gives goes before a value outside: 19 before 20
abbrev pub both : (Whole → Whole → Whole) → Value → Value → Value
both f (Ok a) (Ok b) = held (f (whole a) (whole b))
both f (Ok a) (Err w) = Err w
both f (Err Missing) b = Err Missing
both f (Err Outside) (Ok b) = Err Outside
both f (Err Outside) (Err w) = Err w

-- what decimal digits say, after what stands before them
abbrev pub decimal_from : ℕ → List ℕ → ℕ
decimal_from v [] = v
decimal_from v (b ∷ w) = decimal_from (v * 10 + (b - 48)) w

abbrev pub decimal : List ℕ → Value
decimal w = held (record { plus = decimal_from 0 w; minus = 0 })
