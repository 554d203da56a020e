-- Registers stay valid as they age, rest, and take results.
use mathlib.Core.Path.{◌≡◌, refl, ◌∙◌, ap}
use mathlib.Core.Logic.{⊎_elim}
use mathlib.Core.List.{List, [], ◌∷◌, map}
use Prim.Native.Nat.{ℕ, zero, suc, ◌-◌, ◌%◌, ◌^◌, ◌≤◌, ◌<◌}
use native.Mathlib.Nat.{mod-lt}
use native.Mathlib.Omega.{arith}
use lib.Dec.{ltb}
use lib.ListN.{length, length-set, get_or-map, get_or-eq_default}
use borrow.Author.Tests.{ltb-true, ltb-false}
use Rattle.word.proofs.Choice.{by_test}
use Rattle.vliw.specs.Cell.{Cell, Registers, Write, still, at, landed_of, rested, aged_of, aged, written_of, put, puts, choose, others}
use Rattle.vliw.specs.Machine.{Dest, writes}
use Rattle.vliw.proofs.Lists.{set_each}
use Rattle.machine.proofs.Images.{AllSmall}
use Rattle.machine.proofs.Validity.{ValidCell, AllValid}

-- what register r has in a run; its counts are small as they are valid
pub record Whole (r : ℕ) (c : Cell) : Type 0 where
  pub value : c.value < 2 ^ 32
  pub waiting : c.waiting < 2 ^ 32
  pub valid : ValidCell r c

abbrev pub AllWhole : Registers → Type 0
AllWhole l = (r : ℕ) → Whole r (at l r)

-- ---- small and valid registers are whole, and whole ones are small and valid

still_whole : (r : ℕ) → Whole r still
still_whole r =
    record {
      value = omega arith;
      waiting = omega arith;
      valid = record { zero_register = λ p q. refl; landing = omega arith; busy = omega arith; waiting = λ e. refl; branch = λ p. (omega arith, omega arith) };
    }

module _ (l : Registers) where
  pub to_whole : length l ≡ 288 → AllSmall l → AllValid l → AllWhole l
  to_whole e small valid r =
      ⊎_elim
      (λ t. record { value = (small r).value; waiting = (small r).waiting; valid = valid r (ltb-true r 288 t) })
      (λ t. rw (get_or-eq_default l still {n = r} (omega (arith, ltb-false r 288 t))) (still_whole r))
      (by_test (ltb r 288))

  pub whole_small : AllWhole l → AllSmall l
  whole_small h r =
      let v = (h r).valid in
      record { value = (h r).value; waiting = (h r).waiting; busy = omega (arith, v.busy); landing = omega (arith, v.busy, v.landing) }

  pub whole_valid : AllWhole l → AllValid l
  whole_valid h r b = (h r).valid

-- ---- one register

abbrev cell : ℕ → ℕ → ℕ → ℕ → Cell
cell v w b l = record { value = v; waiting = w; busy = b; landing = l }

module _ (r v w b : ℕ) where
  aged_valid : (l : ℕ) → ValidCell r (cell v w b l) → ValidCell r (aged_of v w b l)
  aged_valid zero h =
      record {
        zero_register = λ p q. ap aged (h.zero_register p q);
        landing = omega arith;
        busy = omega (arith, h.busy);
        waiting = h.waiting;
        branch = h.branch;
      }
  aged_valid (suc zero) h =
      record {
        zero_register = λ p q. ap aged (h.zero_register p q);
        landing = omega arith;
        busy = omega (arith, h.busy);
        waiting = λ e. refl;
        branch = λ p. ((h.branch p).1, omega arith);
      }
  aged_valid (suc (suc l)) h =
      record {
        zero_register = λ p q. ap aged (h.zero_register p q);
        landing = omega (arith, h.landing);
        busy = omega (arith, h.busy);
        waiting = λ e. omega arith;
        branch = h.branch;
      }

  aged_whole : (l : ℕ) → Whole r (cell v w b l) → Whole r (aged_of v w b l)
  aged_whole zero h = record { value = h.value; waiting = h.waiting; valid = aged_valid zero h.valid }
  aged_whole (suc zero) h = record { value = h.waiting; waiting = omega arith; valid = aged_valid 1 h.valid }
  aged_whole (suc (suc l)) h = record { value = h.value; waiting = h.waiting; valid = aged_valid (suc (suc l)) h.valid }

  -- one of the two lands
  landed_one : (P : ℕ → Type 0) (l : ℕ) → P v → P w → P (landed_of v w l)
  landed_one P zero p q = p
  landed_one P (suc l) p q = q

  rested_whole : (l : ℕ) → Whole r (cell v w b l) → Whole r (rested (cell v w b l))
  rested_whole l h =
      record {
        value = landed_one (λ n. n < 2 ^ 32) l h.value h.waiting;
        waiting = omega arith;
        valid =
            record {
              zero_register = λ p q. ap rested (h.valid.zero_register p q);
              landing = omega arith;
              busy = omega arith;
              waiting = λ e. refl;
              branch = λ p. (landed_one (λ n. n ≤ 1) l (h.valid.branch p).0 (h.valid.branch p).1, omega arith);
            };
      }

-- ---- results

-- a destination may take a value: it is no register 0, its delay is one of the table's, and a branch register takes a bit
pub record Takes (d : Dest) (v : ℕ) : Type 0 where
  pub some : d.reg < 256 → d.reg % 64 ≡ 0 → ⊥
  pub least : 1 ≤ d.delay
  pub most : d.delay ≤ 8
  pub word : v < 2 ^ 32
  pub bit : 256 ≤ d.reg → v ≤ 1

-- each destination its value
pub data AllTake : List Dest → List ℕ → Type 0 where
  none : AllTake [] []
  more : {d : Dest} {v : ℕ} {ds : List Dest} {vs : List ℕ} → Takes d v → AllTake ds vs → AllTake (d ∷ ds) (v ∷ vs)

choose_low : (L : ℕ) (bs : List ℕ) → 1 ≤ L → choose L bs ≤ L - 1
choose_low L [] h = omega arith
choose_low L (b ∷ bs) h = omega (arith, mod-lt b h)

module _ {d : Dest} {v : ℕ} (t : Takes d v) (c : Cell) (h : Whole d.reg c) where
  taken_valid : (l : ℕ) → l ≤ d.delay - 1 → ValidCell d.reg (written_of c.value v (d.delay - 1) l)
  taken_valid zero b =
      record {
        zero_register = λ p q. absurd (t.some p q);
        landing = omega arith;
        busy = omega (arith, t.most);
        waiting = λ e. refl;
        branch = λ p. (t.bit p, omega arith);
      }
  taken_valid (suc l) b =
      record {
        zero_register = λ p q. absurd (t.some p q);
        landing = b;
        busy = omega (arith, t.most);
        waiting = λ e. omega arith;
        branch = λ p. ((h.valid.branch p).0, t.bit p);
      }

  taken_whole : (l : ℕ) → l ≤ d.delay - 1 → Whole d.reg (written_of c.value v (d.delay - 1) l)
  taken_whole zero b = record { value = t.word; waiting = omega arith; valid = taken_valid zero b }
  taken_whole (suc l) b = record { value = h.value; waiting = t.word; valid = taken_valid (suc l) b }

-- ---- all registers

module _ (l : Registers) (h : AllWhole l) where
  pub all_aged : AllWhole (map aged l)
  all_aged r = rw (get_or-map aged l r still) (aged_whole r _ _ _ _ (h r))

  pub all_rested : AllWhole (map rested l)
  all_rested r = rw (get_or-map rested l r still) (rested_whole r _ _ _ _ (h r))

pub all_written : {ds : List Dest} {vs : List ℕ} → AllTake ds vs → (bs : List ℕ) (l : Registers) → AllWhole l → AllWhole (puts (writes ds vs bs) l)
all_written none bs l h = h
all_written (more {d = d} t ts) bs l h =
    let c = at l d.reg in
    all_written ts (others bs) _ (set_each Whole l d.reg _ still (taken_whole t c (h d.reg) _ (choose_low d.delay bs t.least)) h)

pub written_length : (ws : List Write) (l : Registers) → length (puts ws l) ≡ length l
written_length [] l = refl
written_length (w ∷ ws) l = written_length ws (put w l) ∙ length-set l w.reg _
