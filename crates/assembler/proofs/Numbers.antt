-- A line's number is the lowest of its faults.
use mathlib.Core.Path.{◌≡◌, refl, sym}
use mathlib.Core.Bool.{Bool, true, false, ◌&&◌, ◌||◌, and-false, true≢false}
use mathlib.Core.Logic.{⊎_elim}
use Prim.Native.Nat.{ℕ, ◌≤◌}
use native.Mathlib.Omega.{arith}
use borrow.Author.Tests.{eqb-true}
use lib.Dec.{eqb}
use Rattle.word.specs.Choice.{pick}
use Rattle.word.proofs.Choice.{never_both, or_true, and_true}

abbrev pub lowest_of : Bool → Bool → Bool → ℕ
lowest_of a b c = pick a 18 (pick b 19 (pick c 20 0))

abbrev pub has_of : Bool → Bool → Bool → ℕ → Bool
has_of a b c k = (eqb k 18 && a) || (eqb k 19 && b) || (eqb k 20 && c)

nothing : (k : ℕ) → has_of false false false k ≡ false
nothing k = rw (and-false (eqb k 18), and-false (eqb k 19), and-false (eqb k 20))

pub no_fault : (a b c : Bool) (k : ℕ) → lowest_of a b c ≡ 0 → has_of a b c k ≡ true → ⊥
no_fault true b c k e h = absurd (omega arith)
no_fault false true c k e h = absurd (omega arith)
no_fault false false true k e h = absurd (omega arith)
no_fault false false false k e h = never_both h (nothing k)

pub is_fault : (a b c : Bool) → (lowest_of a b c ≡ 0 → ⊥) → has_of a b c (lowest_of a b c) ≡ true
is_fault true b c n = refl
is_fault false true c n = refl
is_fault false false true n = refl
is_fault false false false n = absurd (n refl)

at_18 : (a b c : Bool) {m : ℕ} → a ≡ true → m ≡ 18 → lowest_of a b c ≤ m
at_18 true b c p n = omega arith
at_18 false b c p n = absurd (true≢false (sym p))

at_19 : (a b c : Bool) {m : ℕ} → b ≡ true → m ≡ 19 → lowest_of a b c ≤ m
at_19 true b c p n = omega arith
at_19 false true c p n = omega arith
at_19 false false c p n = absurd (true≢false (sym p))

at_20 : (a b c : Bool) {m : ℕ} → c ≡ true → m ≡ 20 → lowest_of a b c ≤ m
at_20 true b c p n = omega arith
at_20 false true c p n = omega arith
at_20 false false true p n = omega arith
at_20 false false false p n = absurd (true≢false (sym p))

pub lowest_fault : (a b c : Bool) (m : ℕ) → has_of a b c m ≡ true → lowest_of a b c ≤ m
lowest_fault a b c m h =
    ⊎_elim
    (λ q. ⊎_elim
    (λ x. let e = and_true (eqb m 18) a x in at_18 a b c e.1 (eqb-true m 18 e.0))
    (λ x. let e = and_true (eqb m 19) b x in at_19 a b c e.1 (eqb-true m 19 e.0))
    (or_true (eqb m 18 && a) (eqb m 19 && b) q))
    (λ x. let e = and_true (eqb m 20) c x in at_20 a b c e.1 (eqb-true m 20 e.0))
    (or_true ((eqb m 18 && a) || (eqb m 19 && b)) (eqb m 20 && c) h)
