-- Calls and returns of a program that loading takes: after a call an instruction follows, and a return is alone.
use mathlib.Core.Path.{◌≡◌, sym, ap, ◌∙◌}
use mathlib.Core.Logic.{⊎_elim}
use mathlib.Core.Bool.{true}
use mathlib.Core.List.Memᴰ
use mathlib.Core.List.{List, [], ◌∷◌, Memᴰ}
use Prim.Native.Nat.{ℕ, suc, ◌+◌, ◌<◌}
use native.Mathlib.Nat.{add-zero, eq-zero-or-pos, eq-or-lt_of_le}
use native.Mathlib.Omega.{arith}
use lib.ListN.{length, get_or}
use Rattle.word.proofs.Choice.{never_both, and_true}
use Rattle.word.proofs.Lists.{index_of}
use Rattle.isa.specs.Syllable.{ends}
use Rattle.isa.specs.Control.{way_of, controls, leaves, solitary}
use Rattle.isa.specs.Program.{nowhere, spot_at, cluster, is_start, instruction_at, following, operation, operations_at}
use Rattle.isa.specs.Touch.{dests}
use Rattle.isa.specs.declared.Op.{Op}
use Rattle.isa.specs.declared.Delays.{Delays}
use Rattle.isa.specs.declared.Place.{Place}
use Rattle.isa.specs.declared.Spot.{Spot}
use Rattle.isa.specs.declared.Table.{Table}
use Rattle.isa.specs.declared.Way.TheVariants.{Call, Return}
use Rattle.isa.proofs.Decoded.{decode_way, return_silent}
use Rattle.isa.proofs.Instructions.{spot_syllable, start_inside, following_here, following_within, between, next_start, instruction_length, instruction_at_lem, operations_length}
use Rattle.loader.specs.Passed.{Passed}
use Rattle.loader.proofs.Taken.{placed, one_control}
use Rattle.loader.proofs.Ways.{one_stays}

single : {A : Type 0} {x : A} (l : List A) → length l ≡ 1 → Memᴰ x l → l ≡ x ∷ []
single [] n m = absurd (Memᴰ.not-nil m)
single (y ∷ []) n (Memᴰ.head e) = rw e
single (y ∷ []) n (Memᴰ.tail m) = absurd (Memᴰ.not-nil m)
single (y ∷ z ∷ l) n m = absurd (omega arith)

module _ {table : Table} {p : List ℕ} (ok : Passed table p) (i : ℕ) (s : is_start p i ≡ true) where
  -- an operation is that of a syllable of the instruction, with its way
  record Stands (o : Op) : Type 0 where
    k : ℕ
    here : i + k < following p i
    spot : Spot
    among : Memᴰ spot (instruction_at p i)
    at : spot ≡ spot_at p (i + k)
    is : operation spot ≡ o
    way : way_of spot.syllable ≡ o.way

  stands : (o : Op) → Memᴰ o (operations_at p i) → Stands o
  stands o m =
      let (x, here, e) = Memᴰ.of_map operation (instruction_at p i) m in
      let (k, b, q) = index_of nowhere here in
      record {
        k = k;
        here = omega (arith, instruction_length p i);
        spot = x;
        among = here;
        at = sym q ∙ instruction_at_lem p i k nowhere (omega (arith, instruction_length p i));
        is = e;
        way = sym (decode_way (cluster x) x.syllable) ∙ ap (λ (n : Op). n.way) e;
      }

  -- a call does not leave, so that its instruction is not the last
  pub call_follows : (o : Op) {t : Place} → Memᴰ o (operations_at p i) → o.way ≡ Call t → is_start p (following p i) ≡ true
  call_follows o m w =
      let x = stands o m in
      let b = start_inside p i s in
      let stays = one_stays x.among (one_control ok i s) (ap controls (x.way ∙ w)) (ap leaves (x.way ∙ w)) in
      ⊎_elim (λ q. absurd (never_both ((placed ok i b).last_leaves s q) stays)) (next_start p i b) (eq-or-lt_of_le (following_within p i b))

  -- a return has no company
  alone : (o : Op) → Memᴰ o (operations_at p i) → o.way ≡ Return → operations_at p i ≡ o ∷ []
  alone o m w = single (operations_at p i) (rw (operations_length p i, sole) (omega arith)) m
    where
      x : Stands o
      x = stands o m

      inside : i < length p
      inside = start_inside p i s

      within : i + x.k < length p
      within = omega (arith, x.here, following_within p i inside)

      lone : (is_start p (i + x.k) ≡ true) × (ends (get_or p (i + x.k) 0) ≡ true)
      lone = and_true _ _ ((placed ok (i + x.k) within).lone (ap solitary (rw (x.at, spot_syllable p (i + x.k)) at (x.way ∙ w))))

      first : x.k ≡ 0
      first = ⊎_elim (λ e. e) (λ h. absurd (never_both lone.0 (between p i (i + x.k) inside (omega arith) x.here))) (eq-zero-or-pos x.k)

      sole : following p i ≡ suc i
      sole = following_here p i inside (rw (first, add-zero) at lone.1)

  -- and writes nothing
  pub return_writes : (d : Delays) (o : Op) → Memᴰ o (operations_at p i) → o.way ≡ Return → dests d (operations_at p i) ≡ []
  return_writes d o m w =
      let x = stands o m in
      let (t, c) = return_silent (cluster x.spot) x.spot.syllable (x.way ∙ w) in
      rw (alone o m w, ← x.is, t, c)
