-- Numbers, as words that are not empty.
use mathlib.Core.Path.{◌≡◌, refl, ap}
use mathlib.Core.Bool.{Bool, ◌&&◌}
use mathlib.Core.List.{List, [], ◌∷◌}
use Prim.Native.Nat.{ℕ}
use lib.ListN.{length}
use Rattle.std.specs.List.{list_all}
use Rattle.lines.specs.Lines.{every}
use Rattle.tokens.specs.Tokens.{is_decimal}
use Rattle.expressions.specs.Grammar.{is_number}

pub every_all : (f : ℕ → Bool) (w : List ℕ) → list_all f w ≡ every f w
every_all f [] = refl
every_all f (b ∷ w) = ap (λ (t : Bool). f b && t) (every_all f w)

pub number_all : (w : List ℕ) → (length w ≡ 0 → ⊥) → list_all is_decimal w ≡ is_number w
number_all [] h = absurd (h refl)
number_all (b ∷ w) h = every_all is_decimal (b ∷ w)
