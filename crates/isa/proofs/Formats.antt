-- The opcodes of each form.
use mathlib.Core.Path.{◌≡◌, refl}
use mathlib.Core.Bool.{Bool, true, false, not, ◌&&◌}
use mathlib.Core.Logic.{◌⊎◌, inl, inr, ⊎_elim}
use Prim.Native.Nat.{ℕ, ◌≤◌, ◌<◌}
use native.Mathlib.Omega.{arith}
use lib.Dec.{eqb, leb}
use borrow.Author.Tests.{ne_eqb, le-leb, lt-leb, eqb-true, eqb-false, leb-true, leb-false, not-true}
use Rattle.word.specs.Choice.{pick}
use Rattle.word.proofs.Choice.{is_false, bool_same, or_true, or_right, and_true, and_false}
use Rattle.isa.specs.Syllable.{format_of, within, is_alu}
use Rattle.isa.specs.declared.Format.{Format}
use Rattle.isa.specs.declared.Format.TheVariants.{Still, Two, One, Carry, Test, Select, Load, Store, Copy, Jump, Fork}

-- the opcodes of a form
abbrev pub Among : Format → ℕ → Type 0
Among Still o = o ≡ 0
Among Two o = ((1 ≤ o) × (o ≤ 18)) ⊎ ((24 ≤ o) × (o ≤ 39))
Among One o = (19 ≤ o) × (o ≤ 22)
Among Carry o = o ≡ 23
Among Test o = (40 ≤ o) × (o ≤ 49)
Among Select o = (50 ≤ o) × (o ≤ 51)
Among Load o = (52 ≤ o) × (o ≤ 56)
Among Store o = (57 ≤ o) × (o ≤ 59)
Among Copy o = o ≡ 60
Among Jump o = o ≡ 61
Among Fork o = 62 ≤ o

pub within_range : (first last o : ℕ) → within first last o ≡ true → (first ≤ o) × (o ≤ last)
within_range first last o h = let (p, q) = and_true (leb first o) (leb o last) h in (leb-true first o p, leb-true o last q)

pub within_true : (first last o : ℕ) → first ≤ o → o ≤ last → within first last o ≡ true
within_true first last o p q = rw (le-leb first o p, le-leb o last q)

pub within_false : (first last o : ℕ) → (first ≤ o → o ≤ last → ⊥) → within first last o ≡ false
within_false first last o h = is_false _ (λ e. let (p, q) = within_range first last o e in h p q)

-- 1 to 51 but for 24 to 29
pub alu_range : (o : ℕ) → within 1 51 o && not (within 24 29 o) ≡ is_alu o
alu_range o = bool_same _ _ there back
  where
    there : within 1 51 o && not (within 24 29 o) ≡ true → is_alu o ≡ true
    there e =
        let (p, q) = and_true _ _ e in
        let (a, b) = within_range 1 51 o p in
        ⊎_elim
        (λ k. rw (within_true 1 23 o a (omega (arith, leb-false 24 o k))))
        (λ k. or_right (within 1 23 o) (within_true 30 51 o (leb-false o 29 k) b))
        (and_false (leb 24 o) (leb o 29) (not-true _ q))

    back : is_alu o ≡ true → within 1 51 o && not (within 24 29 o) ≡ true
    back e =
        ⊎_elim
        (λ k. let (a, b) = within_range 1 23 o k in rw (within_true 1 51 o a (omega arith), within_false 24 29 o (λ m n. omega arith)))
        (λ k. let (a, b) = within_range 30 51 o k in rw (within_true 1 51 o (omega arith) b, within_false 24 29 o (λ m n. omega arith)))
        (or_true (within 1 23 o) (within 30 51 o) e)

-- outside 19 to 23
pub among_two : (o : ℕ) → 0 < o → o ≤ 39 → within 19 23 o ≡ false → Among Two o
among_two o p q h =
    ⊎_elim (λ e. inl (p, omega (arith, leb-false 19 o e))) (λ e. inr (leb-false o 23 e, q)) (and_false (leb 19 o) (leb o 23) h)

-- what a test of `format_of` says of the opcode, on either way
module _ (o : ℕ) where
  first : (x y : Format) → (o ≡ 0 → Among x o) → (0 < o → Among y o) → Among (pick (eqb o 0) x y) o
  first x y p q = go (eqb o 0) refl
    where
      go : (b : Bool) → eqb o 0 ≡ b → Among (pick b x y) o
      go true e = p (eqb-true o 0 e)
      go false e = q (omega (arith, eqb-false o 0 e))

  step : (n : ℕ) (x y : Format) → (o ≤ n → Among x o) → (n < o → Among y o) → Among (pick (leb o n) x y) o
  step n x y p q = go (leb o n) refl
    where
      go : (b : Bool) → leb o n ≡ b → Among (pick b x y) o
      go true e = p (leb-true o n e)
      go false e = q (leb-false o n e)

  pub format_among : Among (format_of o) o
  unfolding format_of
  format_among =
      first _ _ (λ k. k) λ h.
      step 18 _ _ (λ k. inl (h, k)) λ h.
      step 22 _ _ (λ k. (h, k)) λ h.
      step 23 _ _ (λ k. omega arith) λ h.
      step 39 _ _ (λ k. inr (h, k)) λ h.
      step 49 _ _ (λ k. (h, k)) λ h.
      step 51 _ _ (λ k. (h, k)) λ h.
      step 56 _ _ (λ k. (h, k)) λ h.
      step 59 _ _ (λ k. (h, k)) λ h.
      step 60 _ _ (λ k. omega arith) λ h.
      step 61 _ _ (λ k. omega arith) λ h. h

-- an opcode above m passes no test below it
module _ (o m : ℕ) (h : m < o) where
  not_zero : eqb o 0 ≡ false
  not_zero = ne_eqb o 0 (λ e. omega arith)

  beyond : (n : ℕ) → leb n m ≡ true → leb o n ≡ false
  beyond n e = lt-leb o n (omega (arith, leb-true n m e))

pub format_of_lem : (f : Format) (o : ℕ) → Among f o → format_of o ≡ f
unfolding format_of
format_of_lem Still o h = rw h
format_of_lem Two o (inl h) = simp (not_zero o 0 h.0, le-leb o 18 h.1)
format_of_lem Two o (inr h) = simp (not_zero o 23 h.0, beyond o 23 h.0, le-leb o 39 h.1)
format_of_lem One o h = simp (not_zero o 18 h.0, beyond o 18 h.0, le-leb o 22 h.1)
format_of_lem Carry o h = rw h
format_of_lem Test o h = simp (not_zero o 39 h.0, beyond o 39 h.0, le-leb o 49 h.1)
format_of_lem Select o h = simp (not_zero o 49 h.0, beyond o 49 h.0, le-leb o 51 h.1)
format_of_lem Load o h = simp (not_zero o 51 h.0, beyond o 51 h.0, le-leb o 56 h.1)
format_of_lem Store o h = simp (not_zero o 56 h.0, beyond o 56 h.0, le-leb o 59 h.1)
format_of_lem Copy o h = rw h
format_of_lem Jump o h = rw h
format_of_lem Fork o h = simp (not_zero o 61 h, beyond o 61 h)
