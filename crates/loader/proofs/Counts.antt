-- Laws of counts: a list whose elements are of n classes, at most so many of each, has at most n times as many.
use mathlib.Core.Path.{◌≡◌, refl}
use mathlib.Core.Logic.{◌⊎◌, inl, inr, ⊎_elim}
use mathlib.Core.Bool.{Bool, true, false}
use mathlib.Core.List.{List, [], ◌∷◌, Memᴰ}
use Prim.Native.Nat.{ℕ, zero, suc, ◌+◌, ◌*◌, ◌≤◌, ◌<◌, zero-le}
use native.Mathlib.Nat.{suc-mul, le_step, le_refl, le_of_suc-le-suc, eq-or-lt_of_le}
use native.Mathlib.Omega.{arith}
use lib.Dec.{eqb, ltb}
use lib.ListN.{length}
use borrow.Author.Tests.{ltb-true, lt-ltb, le-ltb, eq-eqb}
use Rattle.word.specs.Choice.{bit}
use Rattle.word.specs.Lists.{count}

bit_either : (a b c : Bool) → (a ≡ true → (b ≡ true) ⊎ (c ≡ true)) → bit a ≤ bit b + bit c
bit_either true b c h = ⊎_elim (λ e. rw e (omega arith)) (λ e. rw e (omega arith)) (h refl)
bit_either false b c h = zero-le

ltb_suc : (a n : ℕ) → ltb a (suc n) ≡ true → (ltb a n ≡ true) ⊎ (eqb a n ≡ true)
ltb_suc a n e =
    ⊎_elim (λ q. inr (eq-eqb a n q)) (λ l. inl (lt-ltb a n l)) (eq-or-lt_of_le (le_of_suc-le-suc (ltb-true a (suc n) e)))

module _ {A : Type 0} where
  pub count_some : (f : A → Bool) {x : A} {l : List A} → Memᴰ x l → f x ≡ true → 1 ≤ count f l
  count_some f (Memᴰ.head e) h = rw (← e, h) (omega arith)
  count_some f (Memᴰ.tail m) h = omega (arith, count_some f m h)

  count_all : (f : A → Bool) (l : List A) → ((x : A) → Memᴰ x l → f x ≡ true) → count f l ≡ length l
  count_all f [] h = refl
  count_all f (x ∷ xs) h = rw (h x (Memᴰ.head refl), count_all f xs (λ y m. h y (Memᴰ.tail m))) (omega arith)

  count_none : (f : A → Bool) → ((x : A) → f x ≡ false) → (l : List A) → count f l ≡ 0
  count_none f h [] = refl
  count_none f h (x ∷ xs) = rw (h x, count_none f h xs)

  count_either : (f g h : A → Bool) → ((x : A) → f x ≡ true → (g x ≡ true) ⊎ (h x ≡ true)) → (l : List A) → count f l ≤ count g l + count h l
  count_either f g h e [] = zero-le
  count_either f g h e (x ∷ xs) = omega (arith, bit_either (f x) (g x) (h x) (e x), count_either f g h e xs)

  count_below : (class : A → ℕ) (most : ℕ) (l : List A) (n : ℕ)
      → ((k : ℕ) → k < n → count (λ x. eqb (class x) k) l ≤ most) → count (λ x. ltb (class x) n) l ≤ n * most
  count_below class most l zero few = rw (count_none (λ x. ltb (class x) 0) (λ x. le-ltb (class x) 0 zero-le) l) zero-le
  count_below class most l (suc n) few =
      rw suc-mul
      (omega (
        arith,
        count_either (λ x. ltb (class x) (suc n)) (λ x. ltb (class x) n) (λ x. eqb (class x) n) (λ x. ltb_suc (class x) n) l,
        count_below class most l n (λ k b. few k (le_step b)),
        few n (le_refl (suc n)),
      ))

  pub length_classes : (class : A → ℕ) (most : ℕ) {l : List A} {n : ℕ}
      → ((x : A) → Memᴰ x l → class x < n) → ((k : ℕ) → k < n → count (λ x. eqb (class x) k) l ≤ most) → length l ≤ n * most
  length_classes class most {l} {n} inside few =
      rw (← count_all (λ x. ltb (class x) n) l (λ x m. lt-ltb (class x) n (inside x m))) (count_below class most l n few)
