-- An instruction is touched too soon exactly where the search finds a place and a result.
use mathlib.Core.Path.{◌≡◌, ap}
use mathlib.Core.Logic.{⊎_elim}
use mathlib.Core.Bool.{true}
use mathlib.Core.List.Memᴰ
use mathlib.Core.List.{List, ◌++◌, map-map}
use Prim.Native.Nat.{ℕ, suc, ◌≤◌, ◌<◌}
use native.Mathlib.Nat.{eq-or-lt_of_le}
use native.Mathlib.Omega.{arith}
use lib.ListN.{length}
use Rattle.word.specs.Lists.{member}
use Rattle.word.proofs.Choice.{never_both}
use Rattle.word.proofs.Lists.{member_true, member_some}
use Rattle.vliw.specs.Machine.{Dest}
use Rattle.isa.specs.Program.{is_start, following, operations_at}
use Rattle.isa.specs.Touch.{reads, results, destinations}
use Rattle.isa.specs.declared.Delays.{Delays}
use Rattle.isa.proofs.Instructions.{between}
use Rattle.reach.specs.Nexts.{nexts_at}
use Rattle.reach.specs.declared.Near.{Near}
use Rattle.reach.specs.Near.{place_at, steps_at, Reaches}
use Rattle.std.proofs.lemmas.Bool.{cases_lt}
use Rattle.schedule.specs.Rule.{dests_at, uses_at, TooSoonAt}
use Rattle.schedule.specs.Late.{late_at, LateOf}
use Rattle.schedule.specs.declared.late.Late.{Late}
use Rattle.schedule.proofs.Longest.{fold_longest, longest_above}

-- the a-th place touches the b-th result before it is there
abbrev pub Soon : List ℕ → List Late → List Near → ℕ → ℕ → Type 0
Soon p late near a b =
    let os = operations_at p (place_at near a) in
    (steps_at near a < (late_at late b).delay) × (member (late_at late b).reg (reads os ++ destinations os) ≡ true)

uses_same : (d : Delays) (p : List ℕ) (q : ℕ) → uses_at d p q ≡ reads (operations_at p q) ++ destinations (operations_at p q)
uses_same d p q = ap (λ (l : List ℕ). reads (operations_at p q) ++ l) (map-map (λ (e : Dest). e.reg) _ (results (operations_at p q)))

-- where no producer is touched too soon before i, nor at i, none is before the following one
pub none_before : (d : Delays) (p : List ℕ) (i : ℕ) → i < length p → ((j : ℕ) → j < i → (q : ℕ) → TooSoonAt d p j q → ⊥)
    → ((q : ℕ) → TooSoonAt d p i q → ⊥) → (j : ℕ) → j < following p i → (q : ℕ) → TooSoonAt d p j q → ⊥
none_before d p i h before at j l q t =
    ⊎_elim
    (λ b. before j b q t)
    (λ b. ⊎_elim (λ (e : i ≡ j). at q (rw e t)) (λ c. never_both t.producer (between p i j h c l)) (eq-or-lt_of_le b))
    (cases_lt j i)

module _ (d : Delays) (p : List ℕ) (i : ℕ) (s : is_start p i ≡ true)
    {late : List Late} (h : LateOf (dests_at d p i) late) where
  pub none_late : fold_longest late ≤ 1 → (q : ℕ) → TooSoonAt d p i q → ⊥
  none_late low q t =
      let (b, m, e) = h.complete t.of (omega (arith, t.after, t.before)) in
      omega (arith, t.after, t.before, longest_above late b m, ap (λ (o : Dest). o.delay) e)

  module _ {most : ℕ} (near : List Near) (r : Reaches (nexts_at p) i most near) where
    pub too_soon_lem : (a b : ℕ) → a < length near → b < length late → Soon p late near a b → TooSoonAt d p i (place_at near a)
    too_soon_lem a b l m (k, t) =
        record {
          producer = s;
          result = late_at late b;
          of = h.sound b m;
          k = steps_at near a;
          after = (r.sound a l).0;
          before = k;
          path = (r.sound a l).1;
          touched = rw (uses_same d p (place_at near a)) (member_true _ _ t);
        }

    module _ (low : fold_longest late ≤ suc most) where
      soon : (q : ℕ) → TooSoonAt d p i q → (a : ℕ) × (b : ℕ) × (a < length near) × (b < length late) × (place_at near a ≡ q) × Soon p late near a b
      soon q t =
          let (b, m, e) = h.complete t.of (omega (arith, t.after, t.before)) in
          let x : (late_at late b).delay ≡ t.result.delay = ap (λ (o : Dest). o.delay) e in
          let (a, l, f, k) = r.complete t.k q t.after (omega (arith, t.before, longest_above late b m)) t.path in
          (a, b, l, m, f, (omega (arith, t.before), rw (f, ← uses_same d p q) (member_some (Memᴰ.cast (ap (λ (o : Dest). o.reg) e) t.touched))))

      -- where no place below an index touches a result too soon
      module _ (n : ℕ) (clean : (a : ℕ) → a < n → (b : ℕ) → b < length late → Soon p late near a b → ⊥) where
        pub lowest : (q : ℕ) → TooSoonAt d p i q → place_at near n ≤ q
        lowest q t =
            let (a, b, l, m, f, x) = soon q t in
            let after : ¬ (a < n) = λ c. clean a c b m x in
            ⊎_elim (λ (e : n ≡ a). rw e (omega arith)) (λ c. omega (arith, r.ordered.ascending n a c l)) (eq-or-lt_of_le (omega arith))

        pub none : length near ≤ n → (q : ℕ) → TooSoonAt d p i q → ⊥
        none c q t = let (a, b, l, m, f, x) = soon q t in clean a (omega arith) b m x
