-- A search's answer is the lowest place that passes its test, and no other answer is.
use mathlib.Core.Path.{◌≡◌, refl, sym, ap, ◌∙◌}
use mathlib.Core.Logic.{⊎_elim}
use mathlib.Core.Bool.{Bool, true, false}
use Prim.Native.Nat.{ℕ, zero, suc, ◌+◌, ◌<◌}
use native.Mathlib.Nat.{add-zero, zero-add, add-suc, suc-add, lt_trans}
use native.Mathlib.Numerals.{add-one}
use native.Mathlib.Omega.{arith}
use borrow.Author.Count.{below_none, below_more}
use Rattle.std.specs.Prelude.{Option, Some, None}
use Rattle.word.specs.Lists.{NoneBelow}
use Rattle.isa.specs.Lowest.{lowest, lowest_from}
use Rattle.isa.specs.Control.{place}
use Rattle.isa.specs.declared.Place.{Place}
use Rattle.word.proofs.Choice.{by_test, never_both}

-- what the answer says
abbrev pub Lowest : (ℕ → Bool) → ℕ → Option Place → Type 0
Lowest f n (Some i) = (i.0 < n) × (f i.0 ≡ true) × NoneBelow f i.0
Lowest f n None = NoneBelow f n

module _ (f : ℕ → Bool) where
  from : (i n : ℕ) → NoneBelow f i → Lowest f (i + n) (lowest_from f i n)
  from i zero h = rw add-zero h
  from i (suc n) h =
      ⊎_elim
      (λ e. rw e (omega arith, e, h))
      (λ (e : f i ≡ false). rw (e, add-suc, ← suc-add) (from (suc i) n (rw add-one at (below_more _ i h e))))
      (by_test (f i))

  pub lowest_is : (n : ℕ) → Lowest f n (lowest f n)
  lowest_is n = rw zero-add at (from 0 n (below_none _))

  same : (n : ℕ) (r s : Option Place) → Lowest f n r → Lowest f n s → r ≡ s
  same n (Some i) (Some j) p q =
      let not_less : ¬ (i.0 < j.0) = λ l. never_both p.1 (q.2 i.0 l) in
      let not_more : ¬ (j.0 < i.0) = λ l. never_both q.1 (p.2 j.0 l) in
      let e : i.0 ≡ j.0 = omega arith in
      ap (λ k. Some (place k)) e
  same n (Some i) None p q = absurd (never_both p.1 (q i.0 p.0))
  same n None (Some j) p q = absurd (never_both q.1 (p j.0 q.0))
  same n None None p q = refl

  pub lowest_only : (n : ℕ) {r : Option Place} → Lowest f n r → r ≡ lowest f n
  lowest_only n {r} h = same n r (lowest f n) h (lowest_is n)

module _ (f g : ℕ → Bool) (n : ℕ) (e : (i : ℕ) → i < n → f i ≡ g i) where
  kept : (r : Option Place) → Lowest f n r → Lowest g n r
  kept (Some i) h = (h.0, sym (e i.0 h.0) ∙ h.1, λ k l. sym (e k (lt_trans l h.0)) ∙ h.2 k l)
  kept None h = λ k l. sym (e k l) ∙ h k l

  -- tests that agree below n have one answer
  pub lowest_same : lowest f n ≡ lowest g n
  lowest_same = lowest_only g n (kept (lowest f n) (lowest_is f n))
