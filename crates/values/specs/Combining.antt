-- Private to the code, nobody has to believe it: what it makes of two values, by what it does with two whole numbers.
use Rattle.std.specs.Prelude.{◌≡◌, ℕ, Ok, Err}
use Rattle.values.specs.Values.{Value}
use Rattle.values.specs.declared.Fault.TheVariants.{Missing, Outside}

abbrev pub Combined : (ℕ → ℕ → Value → Type 0) → Value → Value → Value → Type 0
Combined done (Ok a) (Ok b) r = done a b r
Combined done (Ok a) (Err w) r = r ≡ Err w
Combined done (Err Missing) b r = r ≡ Err Missing
Combined done (Err Outside) (Ok b) r = r ≡ Err Outside
Combined done (Err Outside) (Err w) r = r ≡ Err w
