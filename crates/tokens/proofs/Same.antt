-- Laws of words that are the same.
use mathlib.Core.Path.{◌≡◌, refl, ap₂}
use mathlib.Core.Bool.{true}
use mathlib.Core.List.{List, [], ◌∷◌}
use Prim.Native.Nat.{ℕ}
use borrow.Author.Tests.{eqb-true, eq-eqb}
use lib.Dec.{eqb}
use Rattle.word.proofs.Choice.{never_both, and_true}
use Rattle.tokens.specs.Tokens.{same}

pub same_true : (v w : List ℕ) → same v w ≡ true → v ≡ w
same_true [] [] e = refl
same_true [] (b ∷ w) e = absurd (never_both e refl)
same_true (a ∷ v) [] e = absurd (never_both e refl)
same_true (a ∷ v) (b ∷ w) e =
    let t = and_true (eqb a b) (same v w) e in
    ap₂ (λ (x : ℕ) (y : List ℕ). x ∷ y) (eqb-true a b t.0) (same_true v w t.1)

pub same_self : (w : List ℕ) → same w w ≡ true
same_self [] = refl
same_self (a ∷ w) = rw (eq-eqb a a refl) (same_self w)
