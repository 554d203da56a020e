-- Laws of the loop's registers: what a register is at a tick, and what time and a result make of it.
use mathlib.Core.Path.{◌≡◌, refl, ◌∙◌}
use mathlib.Core.Bool.{Bool, true, false}
use mathlib.Core.List.{List, [], ◌∷◌, map}
use Prim.Native.Nat.{ℕ, zero, suc, ◌+◌, ◌-◌, ◌≤◌}
use native.Mathlib.Omega.{arith}
use native.Mathlib.Nat.{zero-sub}
use lib.Dec.{ltb}
use lib.ListN.{length, get_or, set, length-map, get_or-map}
use borrow.Author.Tests.{ltb-true, ltb-false, lt-ltb, le-ltb}
use Rattle.word.specs.Choice.{pick}
use Rattle.word.proofs.Choice.{bool_same}
use Rattle.vliw.specs.Cell.{Cell, still, at, aged, rested, written_of, put}
use Rattle.vliw.proofs.Lists.{map_set}
use Rattle.ticks.specs.declared.Register.{Register}
use Rattle.ticks.specs.Ticks.{blank, register_at, view_of, views, value_at, waiting_at, Bank}

-- ---- one register

aged_of_lem : (t : ℕ) (r : Register) → view_of (t + 1) r ≡ aged (view_of t r)
aged_of_lem t r = rw p (by (r.land - t) (r.land - (t + 1)) (omega arith))
  where
    p : r.ready - (t + 1) ≡ r.ready - t - 1
    p = omega arith

    by : (k j : ℕ) → j ≡ k - 1 → written_of r.old r.value (r.ready - t - 1) j ≡ aged (written_of r.old r.value (r.ready - t) k)
    by zero j e = rw e
    by (suc zero) j e = rw e
    by (suc (suc k)) j e = let q : j ≡ suc k = omega arith in rw q

rested_of : (t u : ℕ) (r : Register) → r.ready ≤ u → r.land ≤ u → view_of u r ≡ rested (view_of t r)
rested_of t u r hr hl =
    let p : r.ready - u ≡ 0 = omega arith in
    let q : r.land - u ≡ 0 = omega arith in
    rw (p, q) (by (r.land - t))
  where
    by : (k : ℕ) → written_of r.old r.value 0 0 ≡ rested (written_of r.old r.value (r.ready - t) k)
    by zero = refl
    by (suc k) = refl

view_of_lem : (t : ℕ) (r : Register) → view_of t r ≡ record { value = value_at t r; waiting = waiting_at t r; busy = r.ready - t; landing = r.land - t }
view_of_lem t r = by (ltb t r.land) refl
  where
    by : (x : Bool) → ltb t r.land ≡ x → view_of t r ≡ record { value = pick x r.old r.value; waiting = pick x r.value 0; busy = r.ready - t; landing = r.land - t }
    by true e = let p : r.land - t ≡ suc (r.land - suc t) = omega (arith, ltb-true t r.land e) in rw p
    by false e = let p : r.land - t ≡ 0 = omega (arith, ltb-false t r.land e) in rw p

-- busy is above 0 exactly before the tick at which it reaches 0
late_of : (t x : ℕ) → ltb 0 (x - t) ≡ ltb t x
late_of t x =
    bool_same (ltb 0 (x - t)) (ltb t x)
    (λ e. lt-ltb t x (omega (arith, ltb-true 0 (x - t) e)))
    (λ e. lt-ltb 0 (x - t) (omega (arith, ltb-true t x e)))

blank_view : (t : ℕ) → view_of t blank ≡ still
blank_view t = rw (zero-sub t) refl

-- ---- the registers at a tick

mapped : {A B C : Type 0} (f : A → C) (g : B → C) (h : A → B) (d : A) (xs : List A) → ((k : ℕ) → f (get_or xs k d) ≡ g (h (get_or xs k d))) → map f xs ≡ map g (map h xs)
mapped f g h d [] e = refl
mapped f g h d (x ∷ xs) e = λ i. e 0 i ∷ mapped f g h d xs (λ k. e (suc k)) i

-- time passes: every register ages, and nothing is stored
pub views_aged : (t : ℕ) (rs : List Register) → views (t + 1) rs ≡ map aged (views t rs)
views_aged t rs = mapped (view_of (t + 1)) aged (view_of t) blank rs (λ k. aged_of_lem t (register_at rs k))

module _ {t : ℕ} {rs : List Register} (z : Bank t rs) where
  pub bank_later : {u : ℕ} → t ≤ u → Bank u rs
  bank_later h = record { size = z.size; low = z.low; soon = λ q. omega (arith, z.soon q) }

  -- a stop lands everything, as seven ticks do
  pub views_rested : (u : ℕ) → t + 7 ≤ u → views u rs ≡ map rested (views t rs)
  views_rested u h =
      mapped (view_of u) rested (view_of t) blank rs
      (λ k. rested_of t u (register_at rs k) (omega (arith, z.soon k)) (omega (arith, z.soon k, z.low k)))

  -- a register that is not busy has landed: its value is the last result made
  pub made_value : (r : ℕ) → ltb t (register_at rs r).ready ≡ false → value_at t (register_at rs r) ≡ (register_at rs r).value
  made_value r e = rw (le-ltb t (register_at rs r).land (omega (arith, z.low r, ltb-false t (register_at rs r).ready e)))

module _ (t : ℕ) (rs : List Register) where
  pub views_length : length (views t rs) ≡ length rs
  views_length = length-map rs (view_of t)

  module _ (r : ℕ) where
    pub view_is : at (views t rs) r ≡ view_of t (register_at rs r)
    view_is = rw (blank_view t) at (get_or-map (view_of t) rs r blank)

    pub view_at : at (views t rs) r
        ≡ record { value = value_at t (register_at rs r); waiting = waiting_at t (register_at rs r); busy = (register_at rs r).ready - t; landing = (register_at rs r).land - t }
    view_at = view_is ∙ view_of_lem t (register_at rs r)

    pub view_value : (at (views t rs) r).value ≡ value_at t (register_at rs r)
    view_value = rw view_at

    -- as an instruction reads it
    pub view_read : get_or (map (λ (c : Cell). c.value) (views t rs)) r 0 ≡ value_at t (register_at rs r)
    view_read = get_or-map (λ (c : Cell). c.value) (views t rs) r still ∙ view_value

    pub view_busy : (at (views t rs) r).busy ≡ (register_at rs r).ready - t
    view_busy = rw view_at

    pub view_landing : (at (views t rs) r).landing ≡ (register_at rs r).land - t
    view_landing = rw view_at

    -- the test of fault 11
    pub view_late : ltb 0 (at (views t rs) r).busy ≡ ltb t (register_at rs r).ready
    view_late = rw view_busy (late_of t (register_at rs r).ready)

-- ---- a result, over the last one made, which has landed

pub put_views : (t : ℕ) (rs : List Register) (r v b l : ℕ) → (register_at rs r).land ≤ t
    → views t (set rs r (record { value = v; old = (register_at rs r).value; ready = t + b; land = t + l }))
    ≡ put (record { reg = r; result = v; busy = b; landing = l }) (views t rs)
put_views t rs r v b l e =
    let p : t + b - t ≡ b = omega arith in
    let q : t + l - t ≡ l = omega arith in
    map_set (view_of t) rs r _ ∙ rw (p, q, view_value t rs r, le-ltb t (register_at rs r).land e) refl
