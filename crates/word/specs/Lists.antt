-- Tests and counts over a list, and what a loop over a list gathers.
use Rattle.std.specs.Prelude.{◌≡◌, Bool, false, ◌||◌, List, [], ◌∷◌, ℕ, zero, suc, ◌+◌, ◌<◌, eqb}
use Rattle.word.specs.Choice.{bit}

module _ {A : Type 0} where
  abbrev pub any : (A → Bool) → List A → Bool
  any f [] = false
  any f (x ∷ xs) = f x || any f xs

  -- how many pass
  abbrev pub count : (A → Bool) → List A → ℕ
  count f [] = 0
  count f (x ∷ xs) = bit (f x) + count f xs

  -- what a loop gathers, from the first element to the last
  abbrev pub fold : {S : Type 0} → (S → A → S) → S → List A → S
  fold step s [] = s
  fold step s (x ∷ xs) = fold step (step s x) xs

-- whether some number below n passes
abbrev pub any_below : (ℕ → Bool) → ℕ → Bool
any_below f zero = false
any_below f (suc n) = f n || any_below f n

-- no number below n passes
abbrev pub NoneBelow : (ℕ → Bool) → ℕ → Type 0
NoneBelow f n = (i : ℕ) → i < n → f i ≡ false

abbrev pub member : ℕ → List ℕ → Bool
member x = any (eqb x)

-- whether a number stands twice in the list
abbrev pub repeats : List ℕ → Bool
repeats [] = false
repeats (x ∷ xs) = member x xs || repeats xs
