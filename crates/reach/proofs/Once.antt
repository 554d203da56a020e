-- What p reaches is kept in one list only.
use mathlib.Core.Path.{◌≡◌, refl, sym, ap, ap₂}
use mathlib.Core.Logic.{⊎_elim}
use mathlib.Core.List.{List, [], ◌∷◌}
use Prim.Native.Nat.{ℕ, zero, suc, ◌≤◌, ◌<◌}
use native.Mathlib.Nat.{eq-or-lt_of_le}
use native.Mathlib.Omega.{arith}
use lib.ListN.{length, get_or}
use Rattle.std.proofs.lemmas.Bool.{cases_lt}
use Rattle.reach.specs.declared.Near.{Near}
use Rattle.reach.specs.Near.{nowhere, place_at, steps_at, Ascending, Reaches}

-- each of r stands in s
abbrev Within : List Near → List Near → Type 0
Within r s = (i : ℕ) → i < length r → (j : ℕ) × (j < length s) × (get_or r i nowhere ≡ get_or s j nowhere)

near_same : {a b : Near} → a.place.0 ≡ b.place.0 → a.steps ≡ b.steps → a ≡ b
near_same e f = λ t. record { place = record { 0 = e t }; steps = f t }

place_of : (r s : List Near) (i j : ℕ) → get_or r i nowhere ≡ get_or s j nowhere → place_at r i ≡ place_at s j
place_of r s i j e = ap (λ (x : Near). x.place.0) e

-- the first is no higher than any
first_low : (r : List Near) → Ascending r → (i : ℕ) → i < length r → place_at r 0 ≤ place_at r i
first_low r up zero h = omega arith
first_low r up (suc i) h = omega (arith, up 0 (suc i) (omega arith) h)

tail_up : (x : Near) (xs : List Near) → Ascending (x ∷ xs) → Ascending xs
tail_up x xs up i j l h = up (suc i) (suc j) (omega arith) (omega arith)

module _ (x y : Near) (xs ys : List Near) (up : Ascending (x ∷ xs)) (to : Ascending (y ∷ ys)) (f : Within (x ∷ xs) (y ∷ ys)) (g : Within (y ∷ ys) (x ∷ xs)) where
  heads : x.place.0 ≡ y.place.0
  heads =
      let (j, b, e) = f 0 (omega arith) in
      let (i, a, d) = g 0 (omega arith) in
      omega (arith, first_low (y ∷ ys) to j b, first_low (x ∷ xs) up i a, place_of (x ∷ xs) (y ∷ ys) 0 j e, place_of (y ∷ ys) (x ∷ xs) 0 i d)

  same_head : x ≡ y
  same_head = by (f 0 (omega arith))
    where
      by : (j : ℕ) × (j < length (y ∷ ys)) × (x ≡ get_or (y ∷ ys) j nowhere) → x ≡ y
      by (zero, b, e) = e
      by (suc j, b, e) = absurd (omega (arith, to 0 (suc j) (omega arith) b, heads, ap (λ (n : Near). n.place.0) e))

  tails : Within xs ys
  tails i h = by (f (suc i) (omega arith))
    where
      by : (j : ℕ) × (j < length (y ∷ ys)) × (get_or xs i nowhere ≡ get_or (y ∷ ys) j nowhere) → (j : ℕ) × (j < length ys) × (get_or xs i nowhere ≡ get_or ys j nowhere)
      by (zero, b, e) = absurd (omega (arith, up 0 (suc i) (omega arith) (omega arith), heads, ap (λ (n : Near). n.place.0) e))
      by (suc j, b, e) = (j, omega arith, e)

same : (r s : List Near) → Ascending r → Ascending s → Within r s → Within s r → r ≡ s
same [] [] up to f g = refl
same [] (y ∷ ys) up to f g = absurd (omega (arith, (g 0 (omega arith)).1))
same (x ∷ xs) [] up to f g = absurd (omega (arith, (f 0 (omega arith)).1))
same (x ∷ xs) (y ∷ ys) up to f g =
    ap₂ (λ (a : Near) (l : List Near). a ∷ l) (same_head x y xs ys up to f g) (same xs ys (tail_up x xs up) (tail_up y ys to) (tails x y xs ys up to f g) (tails y x ys xs to up g f))

module _ (nexts : ℕ → List ℕ) (p most : ℕ) where
  -- a place stands in both with the same number of nexts
  also : (r s : List Near) → Reaches nexts p most r → Reaches nexts p most s → Within r s
  also r s h k i b =
      let (j, c, e, l) = k.complete (steps_at r i) (place_at r i) (h.sound i b).0 (h.ordered.low i b) (h.sound i b).1 in
      let (m, d, f, n) = h.complete (steps_at s j) (place_at s j) (k.sound j c).0 (k.ordered.low j c) (k.sound j c).1 in
      let one : m ≡ i =
      ⊎_elim
      (λ q. absurd (omega (arith, h.ordered.ascending m i q b, e, f)))
      (λ q. ⊎_elim (λ (t : i ≡ m). sym t) (λ t. absurd (omega (arith, h.ordered.ascending i m t d, e, f))) (eq-or-lt_of_le q))
      (cases_lt m i) in
      (j, c, near_same (sym e) (omega (arith, l, rw one at n)))

  pub one_list : (r s : List Near) → Reaches nexts p most r → Reaches nexts p most s → r ≡ s
  one_list r s h k = same r s h.ordered.ascending k.ordered.ascending (also r s h k) (also s r k h)
