-- Laws of the range: where a whole number lies.
use mathlib.Core.Path.{◌≡◌, refl, sym, ap, ◌∙◌}
use mathlib.Core.Bool.{Bool, true, false, and-false}
use Prim.Native.Nat.{ℕ, ◌+◌, ◌-◌, ◌≤◌, ◌<◌}
use native.Mathlib.Omega.{arith}
use borrow.Author.Tests.{le-leb, lt-leb, lt-ltb, le-ltb, leb-true, leb-false, ltb-true, ltb-false}
use lib.Dec.{leb, ltb}
use Rattle.values.specs.Values.{half, within}
use Rattle.std.specs.Prelude.{Ok, Err}
use Rattle.values.specs.declared.Fault.TheVariants.{Outside}

pub within_low : (p m : ℕ) → p + half < m → within p m ≡ Err Outside
within_low p m h = rw (lt-leb m (p + half) h)

pub within_high : (p m : ℕ) → m + half ≤ p → within p m ≡ Err Outside
within_high p m h = rw (le-ltb p (m + half) h, and-false (leb m (p + half)))

pub within_is : (p m : ℕ) → m ≤ p + half → p < m + half → within p m ≡ Ok (p + half - m)
within_is p m h k = rw (le-leb m (p + half) h, lt-ltb p (m + half) k)

-- one whole number, as two differences
pub within_same : (p m q n : ℕ) → p + n ≡ q + m → within p m ≡ within q n
within_same p m q n e = go (leb m (p + half)) (ltb p (m + half)) refl refl
  where
    go : (x y : Bool) → leb m (p + half) ≡ x → ltb p (m + half) ≡ y → within p m ≡ within q n
    go false y f g = let h = leb-false m (p + half) f in within_low p m h ∙ sym (within_low q n (omega arith))
    go true false f g = let h = ltb-false p (m + half) g in within_high p m h ∙ sym (within_high q n (omega arith))
    go true true f g =
        let h = leb-true m (p + half) f in
        let k = ltb-true p (m + half) g in
        let s : p + half - m ≡ q + half - n = omega arith in
        within_is p m h k ∙ (ap Ok s ∙ sym (within_is q n (omega arith) (omega arith)))
