-- Laws of tests, counts and folds over a list: `-true` and `-false` use a test, `-some` and `-none` make one; `-in` goes by member, the rest by index.
use mathlib.Core.Path.{◌≡◌, refl, sym}
use mathlib.Core.Logic.{◌≢◌, ⊎_elim, ∥∥₁_elim}
use mathlib.Core.HLevel.{⊥_prop}
use mathlib.Core.Bool.{Bool, true, false, ◌||◌, or_assoc, false≢true}
use mathlib.Core.Bool.{or-false as or_nothing}
use mathlib.Core.List.Memᴰ
use mathlib.Core.List.{List, [], ◌∷◌, ◌++◌, Memᴰ, Pairwise}
use Prim.Native.Nat.{ℕ, zero, suc, ◌+◌, ◌≤◌, ◌<◌, zero-le, suc-le-suc}
use native.Mathlib.Nat.{not-suc-le-zero, le_of_suc-le-suc, add_assoc, add-zero, zero-add, le_refl, le_step, eq-or-lt_of_le}
use native.Mathlib.Omega.{arith}
use lib.ListN.{length, get_or, take}
use lib.Seq.{take-suc, take_all, drop-cons}
use lib.Dec.{eqb}
use borrow.Author.Tests.{eqb-true, eq-eqb}
use Rattle.word.specs.Choice.{bit}
use Rattle.word.specs.Lists.{any, count, fold, any_below, NoneBelow, member, repeats}
use Rattle.word.proofs.Choice.{never_both, is_false, or_true, or_false, or_right, bit_le}

module _ {A : Type 0} where
  -- what stands inside a list does not go by the default
  pub get_d_any : (l : List A) (j : ℕ) (d e : A) → j < length l → get_or l j d ≡ get_or l j e
  get_d_any l j d e h = cc (drop-cons l j d h, drop-cons l j e h)

  pub member_at : (l : List A) (k : ℕ) (d : A) → k < length l → Memᴰ (get_or l k d) l
  member_at [] k d h = absurd (not-suc-le-zero h)
  member_at (x ∷ xs) zero d h = Memᴰ.head refl
  member_at (x ∷ xs) (suc k) d h = Memᴰ.tail (member_at xs k d (le_of_suc-le-suc h))

  pub index_of : {x : A} {l : List A} (d : A) → Memᴰ x l → (k : ℕ) × (k < length l) × (get_or l k d ≡ x)
  index_of d (Memᴰ.head e) = (0, suc-le-suc zero-le, sym e)
  index_of d (Memᴰ.tail m) = let i = index_of d m in (suc i.0, suc-le-suc i.1, i.2)

  module _ (f : A → Bool) where
    -- ---- any

    pub any_true_in : (l : List A) → any f l ≡ true → (x : A) × Memᴰ x l × (f x ≡ true)
    any_true_in [] h = absurd (false≢true h)
    any_true_in (x ∷ xs) h =
        ⊎_elim
        (λ e. (x, Memᴰ.head refl, e))
        (λ e. let m = any_true_in xs e in (m.0, Memᴰ.tail m.1, m.2))
        (or_true (f x) _ h)

    pub any_true : (l : List A) (d : A) → any f l ≡ true → (k : ℕ) × (k < length l) × (f (get_or l k d) ≡ true)
    any_true l d h =
        let m = any_true_in l h in
        let i = index_of d m.1 in
        (i.0, i.1, rw i.2 m.2)

    pub any_some_in : {x : A} {l : List A} → Memᴰ x l → f x ≡ true → any f l ≡ true
    any_some_in (Memᴰ.head e) h = rw (← e, h)
    any_some_in (Memᴰ.tail {x = y} m) h = or_right (f y) (any_some_in m h)

    pub any_some : (l : List A) (k : ℕ) (d : A) → k < length l → f (get_or l k d) ≡ true → any f l ≡ true
    any_some l k d h = any_some_in (member_at l k d h)

    pub any_false_in : (l : List A) → any f l ≡ false → {x : A} → Memᴰ x l → f x ≡ false
    any_false_in l h {x} m = is_false (f x) (λ e. never_both (any_some_in m e) h)

    pub any_false : (l : List A) (d : A) → any f l ≡ false → (k : ℕ) → k < length l → f (get_or l k d) ≡ false
    any_false l d h k b = any_false_in l h (member_at l k d b)

    pub any_none_in : (l : List A) → ((x : A) → Memᴰ x l → f x ≡ false) → any f l ≡ false
    any_none_in l h = is_false (any f l) (λ e. let m = any_true_in l e in never_both m.2 (h m.0 m.1))

    pub any_none : (l : List A) (d : A) → ((k : ℕ) → k < length l → f (get_or l k d) ≡ false) → any f l ≡ false
    any_none l d h = is_false (any f l) (λ e. let i = any_true l d e in never_both i.2 (h i.0 i.1))

    pub any_append : (l m : List A) → any f (l ++ m) ≡ any f l || any f m
    any_append [] m = refl
    any_append (x ∷ xs) m = rw (any_append xs m) (sym (or_assoc (f x) (any f xs) (any f m)))

    pub any_snoc : (l : List A) (j : ℕ) (d : A) → j < length l → any f (take (suc j) l) ≡ any f (take j l) || f (get_or l j d)
    any_snoc l j d h = rw (take-suc l j d h, any_append, or_nothing)

    -- ---- count

    pub count_le : (l : List A) → count f l ≤ length l
    count_le [] = zero-le
    count_le (x ∷ xs) = omega (arith, bit_le (f x), count_le xs)

    pub count_append : (l m : List A) → count f (l ++ m) ≡ count f l + count f m
    count_append [] m = sym (zero-add (count f m))
    count_append (x ∷ xs) m = rw (count_append xs m) (sym (add_assoc (bit (f x)) (count f xs) (count f m)))

    pub count_snoc : (l : List A) (j : ℕ) (d : A) → j < length l → count f (take (suc j) l) ≡ count f (take j l) + bit (f (get_or l j d))
    count_snoc l j d h = rw (take-suc l j d h, count_append, add-zero)

  -- ---- fold

  module _ {S : Type 0} (step : S → A → S) where
    pub fold_append : (s : S) (l m : List A) → fold step s (l ++ m) ≡ fold step (fold step s l) m
    fold_append s [] m = refl
    fold_append s (x ∷ xs) m = fold_append (step s x) xs m

    pub fold_snoc : (s : S) (l : List A) (j : ℕ) (d : A) → j < length l → fold step s (take (suc j) l) ≡ step (fold step s (take j l)) (get_or l j d)
    fold_snoc s l j d h = rw (take-suc l j d h, fold_append)

    pub fold_all : (s : S) (l : List A) {n : ℕ} → length l ≤ n → fold step s (take n l) ≡ fold step s l
    fold_all s l {n} h = rw (take_all n l h)

-- ---- any_below

module _ (f : ℕ → Bool) where
  pub any_below_true : (n : ℕ) → any_below f n ≡ true → (k : ℕ) × (k < n) × (f k ≡ true)
  any_below_true zero h = absurd (false≢true h)
  any_below_true (suc n) h =
      ⊎_elim
      (λ e. (n, le_refl (suc n), e))
      (λ e. let i = any_below_true n e in (i.0, le_step i.1, i.2))
      (or_true (f n) _ h)

  pub any_below_some : (n k : ℕ) → k < n → f k ≡ true → any_below f n ≡ true
  any_below_some zero k l h = absurd (not-suc-le-zero l)
  any_below_some (suc n) k l h = ⊎_elim (λ (e : k ≡ n). rw (← e, h)) (λ b. or_right (f n) (any_below_some n k b h)) (eq-or-lt_of_le (le_of_suc-le-suc l))

  pub any_below_false : (n : ℕ) → any_below f n ≡ false → NoneBelow f n
  any_below_false n h k l = is_false (f k) (λ e. never_both (any_below_some n k l e) h)

  pub any_below_none : (n : ℕ) → NoneBelow f n → any_below f n ≡ false
  any_below_none n h = is_false (any_below f n) (λ e. let i = any_below_true n e in never_both i.2 (h i.0 i.1))

-- ---- member and repeats

pub member_true : (x : ℕ) (l : List ℕ) → member x l ≡ true → Memᴰ x l
member_true x l h = let m = any_true_in (eqb x) l h in Memᴰ.cast (eqb-true x m.0 m.2) m.1

pub member_some : {x : ℕ} {l : List ℕ} → Memᴰ x l → member x l ≡ true
member_some {x} m = any_some_in (eqb x) m (eq-eqb x x refl)

pub repeats_true : (l : List ℕ) → repeats l ≡ true → (i : ℕ) × (j : ℕ) × (i < j) × (j < length l) × (get_or l i 0 ≡ get_or l j 0)
repeats_true [] h = absurd (false≢true h)
repeats_true (x ∷ xs) h =
    ⊎_elim
    (λ e. let k = index_of 0 (member_true x xs e) in (0, suc k.0, suc-le-suc zero-le, suc-le-suc k.1, sym k.2))
    (λ e. let p = repeats_true xs e in (suc p.0, suc p.1, suc-le-suc p.2, suc-le-suc p.3, p.4))
    (or_true (member x xs) _ h)

pub repeats_some : (l : List ℕ) (i j : ℕ) → i < j → j < length l → get_or l i 0 ≡ get_or l j 0 → repeats l ≡ true
repeats_some [] i j h b e = absurd (not-suc-le-zero b)
repeats_some (x ∷ xs) i zero h b e = absurd (not-suc-le-zero h)
repeats_some (x ∷ xs) zero (suc j) h b e = rw (member_some (Memᴰ.cast e (member_at xs j 0 (le_of_suc-le-suc b))))
repeats_some (x ∷ xs) (suc i) (suc j) h b e = or_right (member x xs) (repeats_some xs i j (le_of_suc-le-suc h) (le_of_suc-le-suc b) e)

pub repeats_false : (l : List ℕ) → repeats l ≡ false → Pairwise ◌≢◌ l
repeats_false [] h = Pairwise.nil
repeats_false (x ∷ xs) h =
    let p = or_false (member x xs) (repeats xs) h in
    Pairwise.cons (λ y m e. ∥∥₁_elim m ⊥_prop (λ d. never_both (member_some (Memᴰ.cast e d)) p.0)) (repeats_false xs p.1)
