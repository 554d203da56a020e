-- What loading gives the run's loop.
use mathlib.Core.Path.{◌≡◌, refl, ◌∙◌}
use mathlib.Core.Bool.{true, false}
use mathlib.Core.List.{List, [], ◌∷◌, map}
use Prim.Native.Nat.{ℕ, suc, ◌+◌, ◌≤◌, ◌<◌}
use native.Mathlib.Omega.{arith}
use lib.ListN.{length, get_or}
use Rattle.word.specs.Lists.{count}
use Rattle.tables.specs.Bounds.{Bounds}
use Rattle.isa.specs.Control.{controls}
use Rattle.isa.specs.Program.{nowhere, cluster, is_start, instruction_at, operation}
use Rattle.isa.specs.declared.Op.{Op}
use Rattle.isa.specs.declared.Spot.{Spot}
use Rattle.isa.specs.declared.Table.{Table}
use Rattle.tables.proofs.Bounds.{delay_bounds}
use Rattle.isa.proofs.Instructions.{spot_last, start_inside, following_within, following_inside, instruction_length, instruction_at_lem}
use Rattle.loader.specs.Passed.{Passed}
use Rattle.isa.proofs.Decoded.{decode_way}
use Rattle.loader.proofs.Taken.{in_cluster, short, one_control}
use Rattle.loader.proofs.Ways.{controls_in}
use Rattle.loader.proofs.Subroutines.{call_follows}
use Rattle.call.proofs.Instance.{loaded_machine}
use Rattle.gather.specs.Gather.{Own}
use Rattle.turn.specs.Turn.{Runs}

-- an operation is control as its syllable is
controls_same : (xs : List Spot) → count (λ (o : Op). controls o.way) (map operation xs) ≡ controls_in xs
controls_same [] = refl
controls_same (x ∷ xs) = rw (decode_way (cluster x) x.syllable, controls_same xs)

module _ {table : Table} {p : List ℕ} (ok : Passed table p) (bounds : Bounds table) (few : length p ≤ 4096) where
  opened : (i : ℕ) → is_start p i ≡ true → (k : ℕ) → k < length (instruction_at p i)
      → (0 < (get_or (instruction_at p i) k nowhere).opened) × ((get_or (instruction_at p i) k nowhere).opened ≤ 4)
  opened i s k h =
      let l = instruction_length p i in
      rw (instruction_at_lem p i k nowhere (omega (arith, l)))
      (let (some, most) = in_cluster ok (i + k) (omega (arith, l, following_within p i (start_inside p i s))) in (some, omega (arith, most, bounds.clusters.1)))

  whole : (i : ℕ) → is_start p i ≡ true → (k : ℕ) → suc k < length (instruction_at p i) → (get_or (instruction_at p i) k nowhere).last ≡ false
  whole i s k h =
      let l = instruction_length p i in
      rw (instruction_at_lem p i k nowhere (omega (arith, l)))
      (spot_last p (i + k) ∙ following_inside p i (i + k) (start_inside p i s) (omega arith) (omega (arith, l)))

  own : (i : ℕ) → is_start p i ≡ true → Own (instruction_at p i)
  own i s = record { few = short ok i s bounds.clusters.1 (λ k b. bounds.width k); opened = opened i s; whole = whole i s }

  pub runs : Runs table.delays p
  runs =
      record {
        loaded = loaded_machine ok bounds;
        timely = delay_bounds table bounds;
        own = own;
        short = few;
        single = λ i s. rw (controls_same (instruction_at p i)) (one_control ok i s);
        calls = λ i o s m w. call_follows ok i s o m w;
      }
