-- What the arrays of results hold when one more was kept, or passed over.
use mathlib.Core.Path.{◌≡◌, refl, sym, ap, ◌∙◌}
use mathlib.Core.Logic.{◌⊎◌, inl, inr, ⊎_elim}
use mathlib.Core.Bool.{Bool, true, false}
use mathlib.Core.List.Memᴰ
use mathlib.Core.List.{List, [], ◌∷◌, ◌++◌, map, append_assoc, Memᴰ}
use Prim.Native.Nat.{ℕ, ◌+◌, ◌≤◌, ◌<◌, zero-le}
use native.Mathlib.Nat.{eq-or-lt_of_le, not-suc-le-zero}
use native.Mathlib.Omega.{arith}
use lib.Dec.{eqb}
use lib.ListN.{length, length-append, get_or-append}
use lib.Seq.{get_or-append_seam}
use borrow.Author.Tests.{eqb-false, ne_eqb}
use Rattle.word.specs.Choice.{pick}
use Rattle.vliw.specs.Machine.{Dest}
use Rattle.isa.specs.Program.{operation}
use Rattle.isa.specs.Touch.{Result, delay_of, result_in, results, dests}
use Rattle.isa.specs.declared.Delays.{Delays}
use Rattle.isa.specs.declared.Op.{Op}
use Rattle.isa.specs.declared.Spot.{Spot}
use Rattle.schedule.specs.Late.{dest, late_at, LateOf, made}
use Rattle.schedule.specs.declared.late.Late.{Late}

-- it is none, or takes one instruction
pub passed_over : {es : List Dest} {late : List Late} (register delay : ℕ) → LateOf es late → (register ≡ 0) ⊎ (delay ≤ 1)
    → LateOf (es ++ made register delay) late
passed_over {es} register delay h n =
    record {
      few = h.few;
      some = h.some;
      below = h.below;
      sound = λ i b. Memᴰ.append_left _ (h.sound i b);
      complete = λ m l. ⊎_elim (λ old. h.complete old l) (λ new. absurd (never (eqb register 0) refl new l)) (Memᴰ.append_cases es m);
      most = h.most;
    }
  where
    never : {e : Dest} → (b : Bool) → eqb register 0 ≡ b
        → Memᴰ e (pick b [] (record { reg = register; delay = delay } ∷ [])) → 1 < e.delay → ⊥
    never true q m l = Memᴰ.not-nil m
    never false q m l = ⊎_elim (eqb-false register 0 q) (λ s. omega (arith, ap (λ (d : Dest). d.delay) (Memᴰ.eq_of_singleton m))) n

pub none_kept : LateOf [] []
none_kept =
    record {
      few = zero-le;
      some = λ i b. absurd (not-suc-le-zero b);
      below = λ i b. absurd (not-suc-le-zero b);
      sound = λ i b. absurd (not-suc-le-zero b);
      complete = λ m l. absurd (Memᴰ.not-nil m);
      most = λ i b. absurd (not-suc-le-zero b);
    }

module _ {es : List Dest} {late : List Late} (register delay : ℕ) (h : LateOf es late)
    (some : register ≡ 0 → ⊥) (within : register < 288) (low : delay ≤ 8) (room : length late < 64) where
  abbrev new : Late
  new = record { register = register; delay = delay }

  abbrev more : List Late
  more = late ++ new ∷ []

  size : length more ≡ length late + 1
  size = length-append late (new ∷ [])

  same : (i : ℕ) → i < length late → late_at more i ≡ late_at late i
  same i b = ap dest (get_or-append late (new ∷ []) _ i b)

  here : late_at more (length late) ≡ dest new
  here = ap dest (get_or-append_seam late new [] _)

  each : (i : ℕ) → i < length more → ((i < length late) × (late_at more i ≡ late_at late i)) ⊎ (late_at more i ≡ dest new)
  each i l = ⊎_elim (λ (e : i ≡ length late). inr (rw e here)) (λ b. inl (b, same i b)) (eq-or-lt_of_le (omega (arith, size)))

  pub kept : LateOf (es ++ made register delay) more
  kept =
      rw (ne_eqb register 0 some)
      (record {
        few = omega (arith, size);
        some = λ i l z.
            ⊎_elim
            (λ old. h.some i old.0 (sym (ap (λ (d : Dest). d.reg) old.1) ∙ z))
            (λ new. some (sym (ap (λ (d : Dest). d.reg) new) ∙ z))
            (each i l);
        below = λ i l.
            ⊎_elim
            (λ old. omega (arith, ap (λ (d : Dest). d.reg) old.1, h.below i old.0))
            (λ new. omega (arith, ap (λ (d : Dest). d.reg) new))
            (each i l);
        sound = λ i l.
            ⊎_elim
            (λ old. Memᴰ.cast old.1 (Memᴰ.append_left _ (h.sound i old.0)))
            (λ new. Memᴰ.cast new (Memᴰ.append_right es (Memᴰ.head refl)))
            (each i l);
        complete = λ m l.
            ⊎_elim
            (λ old. let (i, b, e) = h.complete old l in (i, omega (arith, size), same i b ∙ e))
            (λ new. (length late, omega (arith, size), here ∙ sym (Memᴰ.eq_of_singleton new)))
            (Memᴰ.append_cases es m);
        most = λ i l.
            ⊎_elim
            (λ old. omega (arith, ap (λ (d : Dest). d.delay) old.1, h.most i old.0))
            (λ new. omega (arith, ap (λ (d : Dest). d.delay) new))
            (each i l);
      })

-- ---- the results of one operation more

module _ (d : Delays) where
  abbrev made_of : Result → Dest
  made_of r = record { reg = r.register; delay = delay_of d r.opcode r.register }

  dests_in_lem : (r o : ℕ) (more : List Result) → map made_of (result_in r o more) ≡ made r (delay_of d o r) ++ map made_of more
  dests_in_lem r o more = by (eqb r 0)
    where
      by : (b : Bool) → map made_of (pick b more (record { register = r; opcode = o } ∷ more)) ≡ pick b [] (record { reg = r; delay = delay_of d o r } ∷ []) ++ map made_of more
      by true = refl
      by false = refl

  abbrev made_by : Op → List Dest
  made_by o = made o.t (delay_of d o.opcode o.t) ++ made o.carry (delay_of d o.opcode o.carry)

  dests_cons : (o : Op) (os : List Op) → dests d (o ∷ os) ≡ made_by o ++ dests d os
  dests_cons o os = rw (dests_in_lem o.t o.opcode _, dests_in_lem o.carry o.opcode (results os), append_assoc)

  -- those of the operation of a spot, before those of the spots after it
  pub dests_on : (es : List Dest) (x : Spot) (xs : List Spot) {o : Op} → o ≡ operation x
      → ((es ++ made o.t (delay_of d o.opcode o.t)) ++ made o.carry (delay_of d o.opcode o.carry)) ++ dests d (map operation xs)
      ≡ es ++ dests d (map operation (x ∷ xs))
  dests_on es x xs {o} q =
      rw (← q, dests_cons o (map operation xs), append_assoc (es ++ made o.t (delay_of d o.opcode o.t)), append_assoc es, append_assoc (made o.t (delay_of d o.opcode o.t)))
