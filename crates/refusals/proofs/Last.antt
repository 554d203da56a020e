-- A program has one last instruction.
use mathlib.Core.Path.{◌≡◌}
use mathlib.Core.Bool.{true}
use mathlib.Core.List.{List}
use Prim.Native.Nat.{ℕ, ◌≤◌}
use native.Mathlib.Omega.{arith}
use lib.Dec.{eqb}
use lib.ListN.{length}
use borrow.Author.Tests.{ltb-true, ltb-false, eqb-true, eq-eqb}
use Rattle.word.proofs.Choice.{never_both, is_false, and_true}
use Rattle.isa.specs.Program.{is_start, following}
use Rattle.isa.proofs.Instructions.{start_inside, between}
use Rattle.refusals.specs.Broken.{is_last}

pub last_is : (p : List ℕ) (i : ℕ) → is_start p i ≡ true → following p i ≡ length p → is_last p i ≡ true
last_is p i s e = rw (s, eq-eqb _ _ e)

pub last_start : (p : List ℕ) (i : ℕ) → is_last p i ≡ true → is_start p i ≡ true
last_start p i h = (and_true _ _ h).0

-- none starts inside it
last_above : (p : List ℕ) (i j : ℕ) → is_last p i ≡ true → is_last p j ≡ true → j ≤ i
last_above p i j a b =
    let s = last_start p j b in
    let e : following p i ≡ length p = eqb-true _ _ (and_true (is_start p i) (eqb (following p i) (length p)) a).1 in
    ltb-false i j
    (is_false _ (λ h. never_both s (between p i j (start_inside p i (last_start p i a)) (ltb-true i j h) (omega (arith, e, start_inside p j s)))))

pub last_only : (p : List ℕ) (i j : ℕ) → is_last p i ≡ true → is_last p j ≡ true → j ≡ i
last_only p i j a b = omega (arith, last_above p i j a b, last_above p j i b a)
