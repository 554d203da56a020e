-- Laws of walks over a program's bytes: a search's answer, and the spot that a walk by syllables comes to.
use mathlib.Core.Path.{◌≡◌, refl, ap, ◌∙◌}
use mathlib.Core.Bool.{Bool, true, false}
use mathlib.Core.List.{List, [], ◌∷◌}
use Prim.Native.Nat.{ℕ, ◌+◌, ◌/◌, ◌≤◌, ◌<◌, zero-le}
use native.Mathlib.Numerals.{add-one}
use native.Mathlib.Omega.{arith}
use lib.ListN.{length, get_or}
use Rattle.std.specs.Prelude.{Option, Some, None, MatchOption, IsSomeAnd}
use Rattle.std.specs.List.{AllWithin, HoldsAt, list_any}
use Rattle.word.specs.Lists.{NoneBelow, any}
use Rattle.word.specs.Bytes.{words}
use Rattle.word.proofs.Bytes.{words_length}
use Rattle.isa.specs.Control.{place}
use Rattle.isa.specs.Lowest.{lowest}
use Rattle.isa.specs.Program.{nowhere, spots, spot_at, next_spot, spot_before}
use Rattle.isa.specs.declared.Place.{Place}
use Rattle.isa.specs.declared.Spot.{Spot}
use Rattle.isa.proofs.Instructions.{spots_length, spot_walk}
use Rattle.isa.proofs.Lowest.{lowest_only}

-- a search that passed i syllables
module _ (l : List ℕ) (f : ℕ → Bool) (i : ℕ) (h : NoneBelow f i) where
  pub found_here : i < length l / 4 → f i ≡ true → Some (place i) ≡ lowest f (length (words l))
  found_here b e = lowest_only f (length (words l)) (omega (arith, words_length l), e, h)

  pub found_none : length l / 4 ≤ i → None ≡ lowest f (length (words l))
  found_none b = lowest_only f (length (words l)) (λ k s. h k (omega (arith, words_length l)))

-- the first spot that passes a test, as an iterator finds it
abbrev pub Passes : (Spot → Bool) → Spot → Type 0
Passes test x = test x ≡ true

abbrev pub Fails : (Spot → Bool) → Spot → Type 0
Fails test x = test x ≡ false

module _ (p : List ℕ) (test : Spot → Bool) where
  pub found_first : (r : Option ℕ) {s : Option Place}
      → MatchOption r (AllWithin (Fails test) (spots p) 0 (length (spots p))) (λ i. (i < length (spots p)) × HoldsAt (Passes test) (spots p) i × AllWithin (Fails test) (spots p) 0 i)
      → MatchOption r (s ≡ None) (λ i. s ≡ Some (place i)) → s ≡ lowest (λ i. test (spot_at p i)) (length p)
  found_first None h e = e ∙ lowest_only (λ i. test (spot_at p i)) (length p) {r = None} (λ k b. h k nowhere zero-le (rw spots_length b))
  found_first (Some i) (b, y, n) e =
      e ∙ lowest_only (λ i. test (spot_at p i)) (length p) {r = Some (place i)} (rw spots_length at b, y nowhere, λ k l. n k nowhere zero-le l)

-- and its number as a place
pub placed : {Q : ℕ → Place → Type 0} (r : Option ℕ) (s : Option Place) → MatchOption r (s ≡ None) (λ i. IsSomeAnd s (Q i)) → ((i : ℕ) (x : Place) → Q i x → x ≡ place i)
    → MatchOption r (s ≡ None) (λ i. s ≡ Some (place i))
placed None s h k = h
placed (Some i) (Some x) h k = ap Some (k i x h)
placed (Some i) None h k = absurd h

pub any_listed : {A : Type 0} (f : A → Bool) (l : List A) → list_any f l ≡ any f l
any_listed f [] = refl
any_listed f (x ∷ xs) = rw (any_listed f xs)

-- a walk at syllable j: x is the spot before it, y its own
module _ (p : List ℕ) (j : ℕ) {x : Spot} (e : x ≡ spot_before p j) where
  pub walk_on : {y : Spot} {s : ℕ} → j < length p → s ≡ get_or p j 0 → y ≡ next_spot x s → y ≡ spot_at p j
  walk_on h k q = rw (q, e, k) (spot_walk p j h)

pub walk_next : (p : List ℕ) (j : ℕ) {y : Spot} → y ≡ spot_at p j → y ≡ spot_before p (j + 1)
walk_next p j e = rw add-one e
