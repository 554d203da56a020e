-- Laws of stamps: how they grow, and what they say of the instruction that left them last.
use mathlib.Core.Path.{◌≡◌, refl, sym, ◌∙◌}
use mathlib.Core.Bool.{Bool, true, false, ◌||◌}
use mathlib.Core.List.{List, ◌∷◌, ◌++◌, map}
use Prim.Native.Nat.{ℕ, zero, suc}
use native.Mathlib.Omega.{arith}
use lib.Dec.{eqb}
use lib.ListN.{get_or, replicate}
use borrow.Author.Tests.{eq-eqb, ne_eqb}
use Rattle.word.specs.Choice.{pick}
use Rattle.word.specs.Lists.{any, member}
use Rattle.word.proofs.Choice.{never_both}
use Rattle.isa.specs.Program.{operation, operations_at}
use Rattle.isa.specs.Touch.{reads, destinations}
use Rattle.isa.specs.declared.Op.{Op}
use Rattle.isa.specs.declared.Spot.{Spot}
use Rattle.schedule.specs.Stamps.{names, Stamped}
use Rattle.schedule.proofs.Naming.{touched}

pick_or : (x y : Bool) (n m : ℕ) → pick y n (pick x n m) ≡ pick (x || y) n m
pick_or true true n m = refl
pick_or true false n m = refl
pick_or false true n m = refl
pick_or false false n m = refl

-- the stamps of a spot's operation, before those of the spots after it
pub stamped_on : (x : Spot) (xs : List Spot) {o : Op} {n : ℕ} {old new : List ℕ} → o ≡ operation x → Stamped (λ r. names r o) n old new
    → (r : ℕ) → pick (any (names r) (map operation xs)) n (get_or new r 0) ≡ pick (any (names r) (map operation (x ∷ xs))) n (get_or old r 0)
stamped_on x xs {o} {n} {old} q h r = rw (h.each r, ← q) (pick_or (names r o) (any (names r) (map operation xs)) n (get_or old r 0))

-- ---- what a stamp says

-- that the instruction at the place below it names the register
abbrev pub Told : List ℕ → List ℕ → Type 0
Told p stamps = (r m : ℕ) → get_or stamps r 0 ≡ suc m → any (names r) (operations_at p m) ≡ true

blank : (n r : ℕ) → ◌≡◌ {A = ℕ} (get_or (replicate n 0) r 0) 0
blank zero r = refl
blank (suc n) zero = refl
blank (suc n) (suc r) = blank n r

pub told_none : (p : List ℕ) (n : ℕ) → Told p (replicate n 0)
told_none p n r m e = absurd (omega (arith, blank n r))

module _ (p : List ℕ) (q : ℕ) {old new : List ℕ} (told : Told p old) (h : Stamped (λ r. any (names r) (operations_at p q)) (suc q) old new) where
  pub told_more : Told p new
  told_more r m e = by (any (names r) (operations_at p q)) refl
    where
      by : (b : Bool) → any (names r) (operations_at p q) ≡ b → any (names r) (operations_at p m) ≡ true
      by true t =
          let u : get_or new r 0 ≡ suc q = h.each r ∙ rw t in
          let s : q ≡ m = omega arith in
          rw (← s) t
      by false t = told r m (sym (h.each r ∙ rw t) ∙ e)

  told_by : (r : ℕ) → eqb (get_or new r 0) (suc q) ≡ any (names r) (operations_at p q)
  told_by r = by (any (names r) (operations_at p q)) refl
    where
      by : (b : Bool) → any (names r) (operations_at p q) ≡ b → eqb (get_or new r 0) (suc q) ≡ b
      by true t = eq-eqb _ _ (h.each r ∙ rw t)
      by false t = ne_eqb _ _ (λ e. never_both (told r q (sym (h.each r ∙ rw t) ∙ e)) t)

  -- it reads or writes a register that is not register 0
  pub told_touch : (r : ℕ) → (r ≡ 0 → ⊥) → eqb (get_or new r 0) (suc q) ≡ member r (reads (operations_at p q) ++ destinations (operations_at p q))
  told_touch r some = told_by r ∙ touched r some (operations_at p q)
