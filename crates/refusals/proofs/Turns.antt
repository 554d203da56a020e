-- A walk over a program's spots finds the lowest instruction that breaks a test.
use mathlib.Core.Path.{◌≡◌, refl, sym, ap, ◌∙◌}
use mathlib.Core.Logic.{⊎_elim}
use mathlib.Core.Bool.{Bool, true, false, ◌&&◌}
use mathlib.Core.List.{List, [], ◌∷◌}
use Prim.Native.Nat.{ℕ, zero, suc, ◌+◌, ◌≤◌, ◌<◌, zero-le, suc-le-suc}
use native.Mathlib.Nat.{eq-or-lt_of_le, le_refl}
use native.Mathlib.Numerals.{add-one}
use native.Mathlib.Omega.{arith}
use lib.ListN.{length, get_or, drop, drop_of_length-le, length-drop}
use lib.Dec.{ltb}
use lib.Seq.{drop-cons}
use borrow.Author.Count.{below_none}
use borrow.Author.Tests.{ltb-true, ltb-false}
use Rattle.std.specs.Prelude.{Some, None}
use Rattle.word.specs.Bytes.{words}
use Rattle.word.specs.Choice.{pick}
use Rattle.word.specs.Lists.{NoneBelow}
use Rattle.word.proofs.Choice.{by_test, never_both}
use Rattle.isa.specs.Control.{place}
use Rattle.isa.specs.Lowest.{lowest}
use Rattle.isa.specs.Program.{nowhere, spots, spot_at, spot_before, is_start, instruction_at, following}
use Rattle.isa.specs.Syllable.{ends}
use Rattle.isa.specs.declared.Spot.{Spot}
use Rattle.isa.proofs.Instructions.{spots_length, spot_last, start_zero, start_inside, start_next, between, following_end, following_here, following_on}
use Rattle.isa.proofs.Lowest.{lowest_only}

-- after i spots those from i on are left
module _ (p : List ℕ) (i : ℕ) {xs : List Spot} (left : xs ≡ drop i (spots p)) where
  pub all_passed : xs ≡ [] → length p ≤ i
  all_passed e = omega (arith, ap (λ (l : List Spot). length l) (sym e ∙ left), length-drop i (spots p), spots_length p)

  -- and x is the one at i
  module _ {x : Spot} {ys : List Spot} (e : xs ≡ x ∷ ys) where
    pub inside : i < length p
    inside = omega (arith, ap (λ (l : List Spot). length l) (sym e ∙ left), length-drop i (spots p), spots_length p)

    first : x ∷ ys ≡ spot_at p i ∷ drop (suc i) (spots p)
    first = sym e ∙ left ∙ drop-cons (spots p) i nowhere (rw spots_length inside)

    pub spot_here : x ≡ spot_at p i
    spot_here = ap (λ (l : List Spot). get_or l 0 x) first

    pub left_next : ys ≡ drop (i + 1) (spots p)
    left_next = rw add-one (ap (λ (l : List Spot). drop 1 l) first)

same_pick : {A : Type 0} (b : Bool) (a : A) → pick b a a ≡ a
same_pick true a = refl
same_pick false a = refl

module _ (f : List Spot → Bool) (l : List ℕ) where
  abbrev p : List ℕ
  p = words l

  -- a test of each instruction
  abbrev broken : ℕ → Bool
  broken i = is_start p i && f (instruction_at p i)

  -- the walk is in the instruction at `at`, before syllable i: g says of its syllables that are left what f says of all of them
  pub record Within (at i : ℕ) (g : List Spot → Bool) : Type 0 where
    pub start : is_start p at ≡ true
    pub reached : at ≤ i
    none : NoneBelow broken at
    same : g (instruction_at p i) ≡ f (instruction_at p at)
    behind : following p i ≡ following p at

  -- or behind its syllable i - 1, which may be its last
  pub record Passed (at i : ℕ) (g : List Spot → Bool) : Type 0 where
    pub start : is_start p at ≡ true
    pub reached : at < i
    none : NoneBelow broken at
    same : g (pick (spot_before p i).last [] (instruction_at p i)) ≡ f (instruction_at p at)
    behind : pick (spot_before p i).last i (following p i) ≡ following p at

  -- an instruction that doesn't break the test: its other syllables start nothing
  none_next : (i : ℕ) → is_start p i ≡ true → NoneBelow broken i → f (instruction_at p i) ≡ false → NoneBelow broken (following p i)
  none_next i s n h k g =
      ⊎_elim
      (λ a. n k (ltb-true k i a))
      (λ a. ⊎_elim (λ (e : i ≡ k). rw (← e, s) h) (λ d. rw (between p i k (start_inside p i s) d g)) (eq-or-lt_of_le (ltb-false k i a)))
      (by_test (ltb k i))

  module _ {at i : ℕ} {g : List Spot → Bool} (empty : g [] ≡ false) (w : Passed at i g) where
    -- where none of them is left, it didn't break the test
    over : pick (spot_before p i).last [] (instruction_at p i) ≡ [] → following p at ≡ i → NoneBelow broken i
    over e b = rw b at (none_next at w.start w.none (sym w.same ∙ ap g e ∙ empty))

    over_last : (spot_before p i).last ≡ true → NoneBelow broken i
    over_last h = over (rw h) (sym w.behind ∙ rw h)

    over_end : length p ≤ i → NoneBelow broken i
    over_end h =
        let e : instruction_at p i ≡ [] = rw (drop_of_length-le (spots p) {i = i} (rw spots_length h)) in
        over (rw e (same_pick (spot_before p i).last [])) (sym w.behind ∙ rw (following_end p i h) (same_pick (spot_before p i).last i))

  -- where one starts at i, or the program ends there, those before it are passed
  none_before : (i : ℕ) {at : ℕ} {g : List Spot → Bool} → g [] ≡ false → (0 < i → Passed at i g) → is_start p i ≡ true → NoneBelow broken i
  none_before zero e w s = below_none (λ i. broken i ≡ false)
  none_before (suc j) e w s =
      over_last e (w (suc-le-suc zero-le)) (spot_last p j ∙ sym (start_next p j (start_inside p (suc j) s)) ∙ s)

  none_at_end : (i : ℕ) {at : ℕ} {g : List Spot → Bool} → g [] ≡ false → (0 < i → Passed at i g) → length p ≤ i → NoneBelow broken i
  none_at_end zero e w h = below_none (λ i. broken i ≡ false)
  none_at_end (suc j) e w h = over_end e (w (suc-le-suc zero-le)) h

  pub ended : (i : ℕ) {at : ℕ} {g : List Spot → Bool} → g [] ≡ false → (0 < i → Passed at i g) → length p ≤ i → None ≡ lowest broken (length p)
  ended i e w h = lowest_only broken (length p) (λ k b. none_at_end i e w h k (omega arith))

  -- an instruction begins at i, with all that k starts with
  pub begins : (i : ℕ) {at : ℕ} {g k : List Spot → Bool} → g [] ≡ false → (0 < i → Passed at i g) → is_start p i ≡ true
      → ((xs : List Spot) → k xs ≡ f xs) → Within i i k
  begins i e w s same =
      record { start = s; reached = le_refl i; none = none_before i e w s; same = same (instruction_at p i); behind = refl }

  -- or it goes on there, which the first doesn't
  pub later : (i : ℕ) → i < length p → is_start p i ≡ false → 0 < i
  later zero h s = absurd (never_both (start_zero p h) s)
  later (suc j) h s = suc-le-suc zero-le

  pub goes_on : (i : ℕ) {at : ℕ} {g : List Spot → Bool} → (0 < i → Passed at i g) → i < length p → is_start p i ≡ false → Within at i g
  goes_on zero w h s = absurd (never_both (start_zero p h) s)
  goes_on (suc j) w h s =
      let q = w (suc-le-suc zero-le) in
      let last : (spot_at p j).last ≡ false = spot_last p j ∙ sym (start_next p j h) ∙ s in
      record { start = q.start; reached = omega (arith, q.reached); none = q.none; same = rw last at q.same; behind = rw last at q.behind }

  -- the turn's spot x
  module _ {at i : ℕ} {g : List Spot → Bool} (w : Within at i g) where
    pub found : f (instruction_at p at) ≡ true → Some (place at) ≡ lowest broken (length p)
    found h = lowest_only broken (length p) (start_inside p at w.start, rw w.start h, w.none)

    module _ {x : Spot} (h : i < length p) (s : x ≡ spot_at p i) where
      instruction : instruction_at p i ≡ x ∷ pick x.last [] (instruction_at p (i + 1))
      instruction = rw (add-one, s, drop-cons (spots p) i nowhere (rw spots_length h))

      step : (b : Bool) → ends (get_or p i 0) ≡ b → pick b (suc i) (following p (suc i)) ≡ following p i
      step true e = sym (following_here p i h e)
      step false e = sym (following_on p i h e)

      pub told : g (x ∷ pick x.last [] (instruction_at p (i + 1))) ≡ f (instruction_at p at)
      told = ap g (sym instruction) ∙ w.same

      pub passes : {k : List Spot → Bool} → k (pick x.last [] (instruction_at p (i + 1))) ≡ f (instruction_at p at) → Passed at (i + 1) k
      passes {k} e =
          record {
            start = w.start;
            reached = omega (arith, w.reached);
            none = w.none;
            same = rw (add-one, ← s) (rw add-one at e);
            behind = rw (add-one, spot_last p i) (step (ends (get_or p i 0)) refl ∙ w.behind);
          }
