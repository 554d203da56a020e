-- Laws of the registers of a state, as the loop takes them and leaves them.
use mathlib.Core.Path.{◌≡◌, ◌∙◌, sym}
use mathlib.Core.Bool.{false, not, ◌||◌, ◌&&◌}
use mathlib.Core.List.{List}
use Prim.Native.Nat.{ℕ, ◌≤◌, ◌<◌}
use native.Mathlib.Omega.{arith}
use native.Mathlib.Decide.{dec_lt}
use lib.ListN.{length, get_or-eq_default}
use lib.Dec.{eqb, ltb}
use borrow.Author.Tests.{ltb-false, eq-eqb, eqb-true, not-false}
use Rattle.std.proofs.lemmas.List.{ext_get_or}
use Rattle.word.specs.Lists.{any_below}
use Rattle.word.proofs.Choice.{or_false}
use Rattle.word.proofs.Lists.{any_below_false}
use Rattle.vliw.specs.Cell.{Cell, Registers, still, at}
use Rattle.machine.specs.Valid.{is_zero_register, all_zero, bad_register}
use Rattle.ticks.specs.declared.Register.{Register}
use Rattle.ticks.specs.Ticks.{blank, register_at, view_of, views, Bank, Fit}
use Rattle.ticks.proofs.Views.{views_length, view_is, view_busy, view_landing}

-- ---- validity

fit_of : (r : ℕ) (c : Cell) → bad_register r c ≡ false → Fit c
fit_of r c h =
    let filled = is_zero_register r && not (all_zero c) in
    let under = ltb c.busy c.landing in
    let over = ltb 7 c.busy in
    let waits = eqb c.landing 0 && not (eqb c.waiting 0) in
    let three = or_false (filled || under || over) waits (or_false (filled || under || over || waits) _ h).0 in
    let two = or_false (filled || under) over three.0 in
    record {
      low = ltb-false c.busy c.landing (or_false filled under two.0).1;
      soon = ltb-false 7 c.busy two.1;
      settled = λ e. eqb-true c.waiting 0 (not-false _ (rw (eq-eqb c.landing 0 e) at three.1));
    }

pub fits_of : (l : Registers) → any_below (λ r. bad_register r (at l r)) 288 ≡ false → (r : ℕ) → r < 288 → Fit (at l r)
fits_of l h r b = fit_of r (at l r) (any_below_false (λ q. bad_register q (at l q)) 288 h r b)

-- ---- a state's registers in the loop

module _ (t : ℕ) (rs : List Register) (l : Registers) (n : length rs ≡ 288) (m : length l ≡ 288) where
  -- those that are the same one by one are the same
  pub views_same : ((k : ℕ) → k < 288 → view_of t (register_at rs k) ≡ at l k) → views t rs ≡ l
  views_same e =
      ext_get_or still (views t rs) l (views_length t rs ∙ n ∙ sym m) (λ k h. view_is t rs k ∙ e k (omega (arith, views_length t rs)))

module _ (rs : List Register) (l : Registers) (n : length rs ≡ 288) (e : views 0 rs ≡ l) (f : (r : ℕ) → r < 288 → Fit (at l r)) where
  low_of : (q : ℕ) → Dec (q < 288) → (register_at rs q).land ≤ (register_at rs q).ready
  low_of q (yes h) = omega (arith, rw (← e) at (f q h).low, view_landing 0 rs q, view_busy 0 rs q)
  low_of q (no h) = rw (get_or-eq_default rs blank {n = q} (omega arith)) (omega arith)

  soon_of : (q : ℕ) → Dec (q < 288) → (register_at rs q).ready ≤ 7
  soon_of q (yes h) = omega (arith, rw (← e) at (f q h).soon, view_busy 0 rs q)
  soon_of q (no h) = rw (get_or-eq_default rs blank {n = q} (omega arith)) (omega arith)

  pub entered_bank : Bank 0 rs
  entered_bank = record { size = n; low = λ q. low_of q (dec_lt q 288); soon = λ q. soon_of q (dec_lt q 288) }
