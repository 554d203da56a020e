-- What the pass keeps: of no operation, of one more, and of an instruction's syllables.
use mathlib.Core.Path.{◌≡◌, refl, sym, ◌∙◌}
use mathlib.Core.Bool.{Bool, false, ◌||◌}
use mathlib.Core.Bool.{or-false as or_nothing}
use mathlib.Core.List.{List, [], ◌∷◌, ◌++◌, map, map-append}
use Prim.Native.Nat.{ℕ, ◌+◌, ◌-◌, ◌≤◌, ◌<◌}
use native.Mathlib.Numerals.{add-one}
use native.Mathlib.Omega.{arith}
use lib.Dec.{eqb, ltb}
use borrow.Author.Tests.{eqb-true}
use mathlib.Core.Logic.{⊎_elim}
use lib.ListN.{length, get_or, take, length-append, length-map}
use lib.Seq.{take-suc, take_all, length-take-le}
use Rattle.word.specs.Choice.{bit}
use Rattle.word.specs.Lists.{any}
use Rattle.word.proofs.Choice.{by_test, or_false}
use Rattle.word.proofs.Lists.{any_append}
use Rattle.vliw.specs.Cell.{Cell, Registers, at}
use Rattle.isa.specs.Decode.{decode}
use Rattle.isa.specs.Program.{nowhere, spots, spot_at, spot_before, operation}
use Rattle.isa.specs.Syllable.{opens}
use Rattle.isa.specs.declared.Op.{Op}
use Rattle.isa.specs.declared.Place.{Place}
use Rattle.isa.specs.declared.Delays.{Delays}
use Rattle.isa.proofs.Instructions.{spots_length, spot_syllable, opened_inside}
use Rattle.machine.specs.Instruction.{Fired, fire}
use Rattle.ticks.specs.Ticks.{register_at, views, Bank}
use Rattle.ticks.specs.declared.Register.{Register}
use Rattle.gather.specs.declared.Scratch.{Scratch}
use Rattle.gather.specs.Gather.{op_busy, Own, named_late, op_late, fire_at, Acts, Does, fired, Came, Gathered}
use Rattle.memory.specs.Memory.{◌or_else◌}
use Rattle.std.specs.Prelude.{Option, None, Some}
use Rattle.std.proofs.lemmas.List.Elements.{All-nil}
use Rattle.vliw.specs.declared.Fault.{Fault}
use Rattle.gather.specs.declared.Seen.{Seen}
use Rattle.gather.specs.declared.Course.TheVariants.{Open}
use Rattle.machine.proofs.Phases.{dests_append, values_append, stores_of_append, fault_of_append}
use Rattle.gather.proofs.OnePass.{next_from_append}
use Rattle.ticks.proofs.Views.{view_read, view_late, made_value}

-- ---- operations

free_before : (x y : Bool) → x || y ≡ false → x ≡ false
free_before x y h = (or_false x y h).0

first_none : (f g : Option Fault) → f or_else g ≡ None → f ≡ None
first_none None g h = refl
first_none (Some f) g h = h

module _ (firing : Op → Fired) (same : (o : Op) → (firing o).op ≡ o) {d : Delays} {m : List ℕ} {j : ℕ} where
  more : {os : List Op} {o : Op} {s r : Seen} {a b : Scratch} → Came d m j os (map firing os) s a → Acts d m j (firing o) s a r b
      → Came d m j (os ++ (o ∷ [])) (map firing (os ++ (o ∷ []))) r b
  more {os} {o} {s} k e =
      let es = map-append firing os (o ∷ []) in
      record {
        fault = rw (es, fault_of_append) (e.fault ∙ rw k.fault);
        next = λ n. rw (es, next_from_append) (k.next _ ∙ sym (e.next n));
        lists = λ z.
            let ks = k.lists (first_none s.fault _ (sym e.fault ∙ z)) in
            let ls = e.lists z in
            record {
              dests = ls.dests ∙ rw (ks.dests, dests_append, same o);
              values = ls.values ∙ rw (ks.values, es, values_append);
              stores = ls.stores ∙ rw (ks.stores, es, stores_of_append);
            };
      }

module _ {late : Op → Bool} {firing : Op → Fired} {d : Delays} {m : List ℕ} {j : ℕ} where
  pub gathered_none : {a : Scratch} {q : Place} → a.results ≡ [] → a.stores ≡ []
      → Gathered late firing d m j [] (record { busy = false; course = Open; fault = None; place = q }) a
  gathered_none {a} e f =
      record {
        busy = refl;
        holds = record { results = rw e (record { few = omega arith; register = All-nil _; delay = All-nil _ }); stores = rw f (All-nil _) };
        few = rw e (omega arith);
        fewer = rw f (omega arith);
        came = λ _. record { fault = refl; next = λ n. refl; lists = λ _. record { dests = rw e refl; values = rw e refl; stores = f } };
      }

  pub gathered_more : ((o : Op) → (firing o).op ≡ o) → {os : List Op} {o : Op} {s r : Seen} {a b : Scratch} → Gathered late firing d m j os s a → Does (late o) d m j (firing o) s a r b
      → Gathered late firing d m j (os ++ (o ∷ [])) r b
  gathered_more same {os} {o} {s} k e =
      let size : length (os ++ (o ∷ [])) ≡ length os + 1 = length-append os (o ∷ []) in
      record {
        busy = rw (any_append, or_nothing (late o)) (e.busy ∙ rw k.busy);
        holds = record { results = e.holds.results; stores = e.holds.stores };
        few = rw size (omega (arith, k.few, e.few));
        fewer = rw size (omega (arith, k.fewer, e.fewer));
        came = λ z. more firing same (k.came (free_before s.busy (late o) (sym e.busy ∙ z))) (e.acts z);
      }

-- ---- syllables

module _ (ws : List ℕ) (z : Own (spots ws)) (j : ℕ) (h : j < length ws) where
  pub opened_some : (0 < (spot_at ws j).opened) × ((spot_at ws j).opened ≤ 4)
  opened_some = z.opened j (rw spots_length h)

  -- a walk by counts: k clusters are opened before the syllable s, and n with it
  pub opened_at : {k s n : ℕ} → k ≡ (spot_before ws j).opened → s ≡ get_or ws j 0 → n ≡ k + bit (opens s) → n ≡ (spot_at ws j).opened
  opened_at e q g = rw (g, e, q) (sym (opened_inside ws j (λ i b. z.whole i (rw spots_length b)) h))

  pub decoded_at : {c s : ℕ} → c ≡ (spot_at ws j).opened - 1 → s ≡ get_or ws j 0 → decode c s ≡ operation (spot_at ws j)
  decoded_at e q = rw (e, q, spot_syllable ws j)

  pub operations_more : map operation (take j (spots ws)) ++ (operation (spot_at ws j) ∷ []) ≡ map operation (take (j + 1) (spots ws))
  operations_more =
      let b : j < length (spots ws) = rw spots_length h in
      rw (add-one, take-suc (spots ws) j nowhere b, map-append)

  -- two results and a store have room
  pub room : {late : Op → Bool} {firing : Op → Fired} {d : Delays} {m : List ℕ} {i : ℕ} {s : Seen} {a : Scratch}
      → Gathered late firing d m i (map operation (take j (spots ws))) s a
      → (length a.results < 63) × (length a.stores < 32)
  room k =
      let e : length (map operation (take j (spots ws))) ≡ j = length-map (take j (spots ws)) _ ∙ length-take-le j (spots ws) (omega (arith, spots_length ws)) in
      (omega (arith, k.few, z.few, spots_length ws), omega (arith, k.fewer, z.few, spots_length ws))

pub operations_all : (ws : List ℕ) (n : ℕ) → length ws ≤ n → map operation (take n (spots ws)) ≡ map operation (spots ws)
operations_all ws n h = rw (take_all n (spots ws) (rw spots_length h))

-- ---- by the machine's registers

module _ {t : ℕ} {rs : List Register} (b : Bank t rs) (idle : (at (views t rs) 0).busy ≡ 0) where
  abbrev l : Registers
  l = views t rs

  -- register 0, which stands for none, is never in flight
  named : (r : ℕ) → ltb t (register_at rs r).ready ≡ named_late t rs r
  named r =
      ⊎_elim
      (λ e. rw (eqb-true r 0 e) (sym (view_late t rs 0) ∙ rw idle))
      (λ e. rw e)
      (by_test (eqb r 0))

  late_at_lem : (o : Op) → op_busy l o ≡ op_late t rs o
  late_at_lem o =
      rw (view_late t rs o.s1, view_late t rs o.s2, view_late t rs o.b, view_late t rs o.stored, view_late t rs o.t, view_late t rs o.carry, ← named o.b, ← named o.stored, ← named o.carry)

  value_at_lem : (r : ℕ) → ltb t (register_at rs r).ready ≡ false → get_or (map (λ (c : Cell). c.value) l) r 0 ≡ (register_at rs r).value
  value_at_lem r e = view_read t rs r ∙ made_value b r e

  fire_at_lem : (o : Op) → op_late t rs o ≡ false → fire (map (λ (c : Cell). c.value) l) o ≡ fire_at rs o
  fire_at_lem o e =
      let (e₅, _) = or_false _ (named_late t rs o.carry) e in
      let (e₄, _) = or_false _ (ltb t (register_at rs o.t).ready) e₅ in
      let (e₃, s) = or_false _ (named_late t rs o.stored) e₄ in
      let (e₂, r) = or_false _ (named_late t rs o.b) e₃ in
      let (p, q) = or_false (ltb t (register_at rs o.s1).ready) (ltb t (register_at rs o.s2).ready) e₂ in
      rw (value_at_lem o.s1 p, value_at_lem o.s2 q, value_at_lem o.b (named o.b ∙ r), value_at_lem o.stored (named o.stored ∙ s))

  all_late : (os : List Op) → any (op_busy l) os ≡ any (op_late t rs) os
  all_late [] = refl
  all_late (o ∷ os) = rw (late_at_lem o, all_late os)

  all_fire : (os : List Op) → any (op_late t rs) os ≡ false → fired l os ≡ map (fire_at rs) os
  all_fire [] e = refl
  all_fire (o ∷ os) e = let (p, q) = or_false (op_late t rs o) _ e in rw (fire_at_lem o p, all_fire os q)

  pub gathered_views : {d : Delays} {m : List ℕ} {j : ℕ} {os : List Op} {s : Seen} {a : Scratch} → Gathered (op_late t rs) (fire_at rs) d m j os s a
      → Gathered (op_busy l) (fire (map (λ (c : Cell). c.value) l)) d m j os s a
  gathered_views {os = os} k =
      record {
        busy = rw (all_late os) k.busy;
        holds = k.holds;
        few = k.few;
        fewer = k.fewer;
        came = λ e. rw (all_fire os (sym k.busy ∙ e)) (k.came e);
      }
