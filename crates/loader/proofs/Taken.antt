-- What a program that loading takes gives to those that check or run it.
use mathlib.Core.Path.{◌≡◌}
use mathlib.Core.Logic.{◌≢◌, ⊎_elim}
use mathlib.Core.Bool.{Bool, true, false, not, ◌&&◌}
use mathlib.Core.List.{List, Memᴰ, Pairwise}
use Prim.Native.Nat.{ℕ, zero, suc, ◌+◌, ◌≤◌, ◌<◌}
use native.Mathlib.Nat.{le_trans, eq-or-lt_of_le}
use native.Mathlib.Omega.{arith}
use lib.Dec.{eqb, ltb}
use lib.ListN.{length, get_or}
use borrow.Author.Tests.{ltb-false, not-false}
use Rattle.std.specs.Prelude.{Option, Some}
use Rattle.word.specs.Lists.{any, any_below, count, repeats}
use Rattle.word.proofs.Choice.{by_test, never_both, or_false}
use Rattle.word.proofs.Lists.{index_of, any_below_false, repeats_false}
use Rattle.isa.specs.Syllable.{ends, opens}
use Rattle.isa.specs.Control.{place, way_of, target_of, solitary}
use Rattle.isa.specs.Program.{nowhere, spot_at, cluster, is_start, instruction_at, following, operations_at}
use Rattle.isa.specs.Touch.{destinations, nexts}
use Rattle.isa.specs.declared.Spot.{Spot}
use Rattle.isa.specs.declared.Place.{Place}
use Rattle.isa.specs.declared.Table.{Table}
use Rattle.isa.proofs.Instructions.{spot_syllable, spot_last, start_inside, start_zero, opened_first, opened_next, following_within, next_start, instruction_at_lem}
use Rattle.refusals.specs.Broken.{bad_cluster_at, overfull, too_wide_at, two_writes_at, misses, leaving, bad_control_at}
use Rattle.loader.specs.Passed.{Passed}
use Rattle.loader.proofs.Counts.{length_classes}
use Rattle.refusals.proofs.Last.{last_is}
use Rattle.loader.proofs.Ways.{controls_in, Next, aimed, follows, next_is}

-- what a test that fails says where its first part passes
past : (a b : Bool) → a && b ≡ false → a ≡ true → b ≡ false
past true b e h = e
past false b e h = cc

kept : (a b : Bool) → a && not b ≡ false → a ≡ true → b ≡ true
kept a b e h = not-false b (past a (not b) e h)

-- a target that no test misses is a start
aims : (starts : ℕ → Bool) (f : Option Place) → misses starts f ≡ false → {t : Place} → f ≡ Some t → starts t.0 ≡ true
aims starts f h e = not-false _ (rw e at h)

-- what each syllable has, each of an instruction has
each_of : (p : List ℕ) (i : ℕ) → i < length p → (P : Spot → Type 0) → ((j : ℕ) → j < length p → P (spot_at p j))
    → (x : Spot) → Memᴰ x (instruction_at p i) → P x
each_of p i b P h x m =
    let (j, l, e) = index_of nowhere m in
    rw (← e, instruction_at_lem p i j nowhere (omega arith)) (h (i + j) (omega (arith, following_within p i b)))

-- what 5 and 8 leave of a syllable
pub record Placed (table : Table) (p : List ℕ) (j : ℕ) : Type 0 where
  pub first_opens : is_start p j ≡ true → opens (get_or p j 0) ≡ true
  pub opened_most : (spot_at p j).opened ≤ table.clusters
  pub target_starts : {t : Place} → target_of (way_of (get_or p j 0)) ≡ Some t → is_start p t.0 ≡ true
  pub lone : solitary (way_of (get_or p j 0)) ≡ true → is_start p j && ends (get_or p j 0) ≡ true
  pub last_leaves : is_start p j ≡ true → following p j ≡ length p → any leaving (instruction_at p j) ≡ true

module _ {table : Table} {p : List ℕ} (ok : Passed table p) where
  -- ---- a syllable

  pub placed : (j : ℕ) → j < length p → Placed table p j
  unfolding bad_cluster_at bad_control_at
  placed j h =
      let (more, copy) = or_false _ _ (rw (spot_syllable p j) at (ok.bad_cluster j h)) in
      let (more, control) = or_false _ _ more in
      let (first, opened) = or_false _ _ more in
      let (more, last) = or_false _ _ (rw (spot_syllable p j, spot_last p j) at (ok.bad_control j h)) in
      let (goal, stop) = or_false _ _ more in
      record {
        first_opens = kept _ _ first;
        opened_most = ltb-false _ _ opened;
        target_starts = λ e. aims (is_start p) _ goal e;
        lone = kept _ _ stop;
        last_leaves = λ s e. kept _ _ last (last_is p j s e);
      }

  start_opened : (i : ℕ) → is_start p i ≡ true → (spot_at p i).opened ≡ 1
  start_opened i s = rw (opened_first p i s, (placed i (start_inside p i s)).first_opens s)

  -- the first syllable opens a cluster, and none is closed inside an instruction
  opened_some : (j : ℕ) → j < length p → 1 ≤ (spot_at p j).opened
  opened_some zero h = omega (arith, start_opened 0 (start_zero p h))
  opened_some (suc j) h =
      ⊎_elim
      (λ s. omega (arith, start_opened (suc j) s))
      (λ s. rw (opened_next p j h, s) (omega (arith, opened_some j (omega arith))))
      (by_test (is_start p (suc j)))

  pub in_cluster : (j : ℕ) → j < length p → (1 ≤ (spot_at p j).opened) × ((spot_at p j).opened ≤ table.clusters)
  in_cluster j h = (opened_some j h, (placed j h).opened_most)

  -- ---- an instruction

  module _ (i : ℕ) (s : is_start p i ≡ true) where
    inside : i < length p
    inside = start_inside p i s

    uncrowded : (any_below (overfull table (instruction_at p i)) table.clusters ≡ false) × (ltb 1 (controls_in (instruction_at p i)) ≡ false)
    unfolding too_wide_at
    uncrowded = or_false _ _ (past _ _ (ok.too_wide i inside) s)

    fits : (k : ℕ) → k < table.clusters → count (λ x. eqb (cluster x) k) (instruction_at p i) ≤ get_or table.width k 0
    fits k b =
        let (more, copy) = or_false _ _ (any_below_false _ _ uncrowded.0 k b) in
        let (more, mem) = or_false _ _ more in
        let (more, mul) = or_false _ _ more in
        let (width, alu) = or_false _ _ more in
        ltb-false _ _ width

    pub short : table.clusters ≤ 4 → ((k : ℕ) → k < table.clusters → get_or table.width k 0 ≤ 8) → length (instruction_at p i) ≤ 32
    short few narrow =
        let clusters = each_of p i inside (λ x. cluster x < table.clusters) (λ j h. omega (arith, in_cluster j h)) in
        omega (arith, length_classes cluster 8 clusters (λ k b. le_trans (fits k b) (narrow k b)))

    pub one_control : controls_in (instruction_at p i) ≤ 1
    one_control = ltb-false 1 _ uncrowded.1

    pub unrepeated : repeats (destinations (operations_at p i)) ≡ false
    unfolding two_writes_at
    unrepeated = past _ _ (ok.two_writes i inside) s

    pub distinct : Pairwise ◌≢◌ (destinations (operations_at p i))
    distinct = repeats_false _ unrepeated

    pub onward : {t : ℕ} → Memᴰ t (nexts (following p i) (operations_at p i)) → is_start p t ≡ true
    onward {t} m = by (next_is (following p i) (instruction_at p i) one_control m)
      where
        by : Next (following p i) (instruction_at p i) t → is_start p t ≡ true
        by (aimed {x = x} m e) =
            each_of p i inside (λ y. target_of (way_of y.syllable) ≡ Some (place t) → is_start p t ≡ true) (λ k h. rw (spot_syllable p k) (placed k h).target_starts) x m e
        by (follows e l) =
            ⊎_elim
            (λ q. absurd (never_both ((placed i inside).last_leaves s q) l))
            (λ b. rw e (next_start p i inside b))
            (eq-or-lt_of_le (following_within p i inside))
