-- The lowest place that passes a test: found exactly, or none.
use Rattle.std.specs.Prelude.{Bool, ℕ, zero, suc, Option, Some, None}
use Rattle.word.specs.Choice.{pick}
use Rattle.isa.specs.Control.{place}
use Rattle.isa.specs.declared.Place.{Place}

-- of the n places i, i + 1, ..
abbrev pub lowest_from : (ℕ → Bool) → ℕ → ℕ → Option Place
lowest_from f i zero = None
lowest_from f i (suc n) = let later = lowest_from f (suc i) n in pick (f i) (Some (place i)) later

-- of the places below n
abbrev pub lowest : (ℕ → Bool) → ℕ → Option Place
lowest f n = lowest_from f 0 n
