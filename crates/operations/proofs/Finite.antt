-- A rule for every number below n, by one comparison that antt computes.
use mathlib.Core.Path.{◌≡◌, refl, sym, ap, ◌∙◌}
use mathlib.Core.Bool.{Bool, true, false}
use mathlib.Core.List.{List, [], ◌∷◌}
use Prim.Native.Nat.{ℕ, zero, suc, ◌<◌}
use native.Mathlib.Omega.{arith}
use borrow.Author.Tests.{eqb-true, eqb-false}
use lib.Dec.{eqb}

abbrev pub below : {A : Type 0} → (ℕ → A) → ℕ → List A
below f zero = []
below f (suc n) = f n ∷ below f n

pub agree : {A : Type 0} (f g : ℕ → A) (n : ℕ) → below f n ≡ below g n → (k : ℕ) → k < n → f k ≡ g k
agree f g zero e k h = absurd (omega arith)
agree f g (suc n) e k h = go (eqb k n) refl (agree f g n there k)
  where
    here : f n ≡ g n
    here = cc

    there : below f n ≡ below g n
    there = cc

    go : (x : Bool) → eqb k n ≡ x → (k < n → f k ≡ g k) → f k ≡ g k
    go true t rest = let s = eqb-true k n t in ap f s ∙ (here ∙ ap g (sym s))
    go false t rest = let d = eqb-false k n t in rest (omega arith)
