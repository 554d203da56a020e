-- The search goes breadth first: from what is k nexts away to what is one more away.
use mathlib.Core.Path.{◌≡◌, refl, ◌∙◌}
use mathlib.Core.Logic.{⊎_elim}
use mathlib.Core.Bool.{true}
use mathlib.Core.List.{List, Memᴰ}
use Prim.Native.Nat.{ℕ, zero, suc, ◌≤◌, ◌<◌}
use native.Mathlib.Nat.{le_refl, not-suc-le-zero, eq-or-lt_of_le, le_of_suc-le-suc}
use native.Mathlib.Omega.{arith}
use lib.ListN.{length}
use Rattle.vliw.specs.Schedule.{Reach}
use Rattle.isa.specs.Program.{is_start}
use Rattle.reach.specs.Nexts.{nexts_at}
use Rattle.reach.specs.Laid.{Laid}
use Rattle.reach.specs.declared.Near.{Near}
use Rattle.reach.specs.Near.{place_at, steps_at, Ordered, Has, Joined, Reaches}

-- what the old and the new places have, all have
all_of : {ts : List ℕ} {k : ℕ} (r s : List Near) → Joined ts k r s → (P : ℕ → ℕ → Type 0)
    → ((i : ℕ) → i < length r → P (steps_at r i) (place_at r i)) → ((t : ℕ) → Memᴰ t ts → P k t)
    → (j : ℕ) → j < length s → P (steps_at s j) (place_at s j)
all_of r s g P old new j l = ⊎_elim (λ n. rw n.1 (new _ n.0)) (λ o. rw (← o.3, ← o.4) (old o.0 o.2)) (g.each j l)

pub reach_start : {p : List ℕ} → Laid p → (i : ℕ) → is_start p i ≡ true → (k q : ℕ) → Reach (nexts_at p) i k q → is_start p q ≡ true
reach_start ok i s zero q e = rw (← e) s
reach_start ok i s (suc k) q (m, h, t) = ok.onward m (reach_start ok i s k m h) t

module _ (nexts : ℕ → List ℕ) (p : ℕ) where
  abbrev Sound : ℕ → ℕ → Type 0
  Sound n q = (1 ≤ n) × Reach nexts p n q

  pub first : {r s : List Near} → length r ≡ 0 → Joined (nexts p) 1 r s → Reaches nexts p 1 s
  first {r} {s} e g =
      record {
        ordered = g.ordered;
        sound = all_of r s g Sound (λ i l. absurd (omega arith)) (λ t m. (omega arith, (p, refl, m)));
        complete = by;
      }
    where
      by : (k q : ℕ) → 1 ≤ k → k ≤ 1 → Reach nexts p k q → Has s q k
      by zero q a b h = absurd (not-suc-le-zero a)
      by (suc zero) q a b (m, e, t) = g.has (rw e t)
      by (suc (suc k)) q a b h = absurd (not-suc-le-zero (le_of_suc-le-suc b))

  -- of the places k nexts away, those below an index have had their nexts put in
  pub record Widening (k i : ℕ) (r : List Near) : Type 0 where
    pub ordered : Ordered r (suc k)
    pub sound : (j : ℕ) → j < length r → Sound (steps_at r j) (place_at r j)
    pub complete : (n q : ℕ) → 1 ≤ n → n ≤ k → Reach nexts p n q → Has r q n
    pub done : (j : ℕ) → j < i → j < length r → steps_at r j ≡ k → {t : ℕ} → Memᴰ t (nexts (place_at r j)) → Has r t (suc k)

  pub begin : {k : ℕ} (r : List Near) → Reaches nexts p k r → Widening k 0 r
  begin r h =
      record {
        ordered =
            record {
              few = h.ordered.few;
              ascending = h.ordered.ascending;
              low = λ i l. omega (arith, h.ordered.low i l);
            };
        sound = h.sound;
        complete = h.complete;
        done = λ j l. absurd (not-suc-le-zero l);
      }

  pub passed_by : {k i : ℕ} (r : List Near) → Widening k i r → (steps_at r i ≡ k → ⊥) → Widening k (suc i) r
  passed_by {k} {i} r h n =
      record {
        ordered = h.ordered;
        sound = h.sound;
        complete = h.complete;
        done = λ j l b e. ⊎_elim (λ (q : j ≡ i). absurd (n (rw (← q) e))) (λ c. h.done j c b e) (eq-or-lt_of_le (le_of_suc-le-suc l));
      }

  pub widened : {k i : ℕ} (r s : List Near) → Widening k i r → i < length r → steps_at r i ≡ k → Joined (nexts (place_at r i)) (suc k) r s → Widening k (suc i) s
  widened {k} {i} r s h l e g =
      record {
        ordered = g.ordered;
        sound = all_of r s g Sound h.sound (λ t m. (omega arith, (place_at r i, rw e at (h.sound i l).1, m)));
        complete = λ n q a b m. g.kept (h.complete n q a b m);
        done = λ j c b f m.
            ⊎_elim
            (λ new. absurd (omega (arith, new.1)))
            (λ old. ⊎_elim
            (λ (q : old.0 ≡ i). g.has (rw (← q, old.3) m))
            (λ d. g.kept (h.done old.0 d old.2 (old.4 ∙ f) (rw old.3 m)))
            (eq-or-lt_of_le (omega arith)))
            (g.each j b);
      }

  pub ended : {k i : ℕ} (r : List Near) → 1 ≤ k → Widening k i r → length r ≤ i → Reaches nexts p (suc k) r
  ended {k} {i} r a h b =
      record {
        ordered = h.ordered;
        sound = h.sound;
        complete = λ n q a c m. ⊎_elim (λ (e : n ≡ suc k). rw e (last q (rw e at m))) (λ l. h.complete n q a (le_of_suc-le-suc l) m) (eq-or-lt_of_le c);
      }
    where
      last : (q : ℕ) → Reach nexts p (suc k) q → Has r q (suc k)
      last q (x, m, t) =
          let (j, l, e, low) = h.complete k x a (le_refl k) m in
          ⊎_elim
          (λ (f : steps_at r j ≡ k). h.done j (omega arith) l f (rw e t))
          (λ f.
          let (i, c, d, g) = h.complete (suc (steps_at r j)) q (omega arith) f (place_at r j, (h.sound j l).1, rw e t) in
          (i, c, d, omega arith))
          (eq-or-lt_of_le low)
