-- An entry gives the lowest number that breaks, at its lowest place.
use mathlib.Core.Path.{◌≡◌, refl}
use mathlib.Core.Logic.{◌⊎◌, inl, inr, ⊎_elim}
use mathlib.Core.Bool.{Bool, true, false}
use mathlib.Core.List.{List, [], ◌∷◌}
use Prim.Native.Nat.{ℕ, zero, suc, ◌≤◌, ◌<◌, zero-le}
use native.Mathlib.Nat.{le_of_suc-le-suc, eq-or-lt_of_le}
use native.Mathlib.Omega.{arith}
use lib.Dec.{ltb}
use lib.ListN.{get_or}
use borrow.Author.Tests.{ltb-true, ltb-false}
use Rattle.std.specs.Prelude.{Option, Some, None, Ok, Err}
use Rattle.word.proofs.Choice.{by_test, never_both}
use Rattle.isa.specs.Lowest.{lowest}
use Rattle.isa.specs.declared.Place.{Place}
use Rattle.isa.proofs.Lowest.{Lowest, lowest_is}
use Rattle.tables.specs.Table.{bad_table}
use Rattle.refusals.specs.Broken.{bad_program_length, bad_room_length}
use Rattle.loader.specs.Load.{Loaded, ◌otherwise◌, refused_if, refused_at, tested_by, loaded_with, loaded_of}
use Rattle.loader.specs.Answer.{answer, refusal_answer}
use Rattle.loader.specs.declared.Refusal.{Refusal}
use Rattle.loader.specs.declared.Refusal.TheVariants.{BadTable, ProgramLength, MemoryLength, StateLength, RoomLength, NoEnd, BadBits, BadCluster, TooWide, TwoWrites, BadControl}
use Rattle.loader.specs.declared.Answer.{Answer}
use Rattle.demands.specs.Exact.{Breaks, limit, wrong_length, no_end, bad_bits, bad_cluster, too_wide, two_writes, bad_control, too_soon, not_valid, First, Exact}

-- ---- whatever breaks

module _ {B : ℕ → ℕ → ℕ → Type 0} where
  same : {k n i l m j : ℕ} → First B k n i → First B l m j → (k ≡ l) × (n ≡ m) × (i ≡ j)
  same {k} {n} {i} {l} {m} {j} f g =
      let a : ¬ (k < l) = λ h. g.before k n i h f.breaks in
      let b : ¬ (l < k) = λ h. f.before l m j h g.breaks in
      let e : k ≡ l = omega arith in
      let d : n ≡ m = omega (arith, f.lowest m j (rw e g.breaks), g.lowest n i (rw e at f.breaks)) in
      (e, d, omega (arith, f.place j (rw (e, d) g.breaks), g.place i (rw (e, d) at f.breaks)))

  pub exact_none : {passes : Type 0} (a : Answer) → passes → ¬ ((1 ≤ a.number) × (a.number ≤ 10)) → ((k n i : ℕ) → ¬ B k n i) → Exact B passes a
  exact_none a p out h =
      record {
        passed = (λ e. h, λ e. p);
        refused = λ k n i low high. (λ e. absurd (out (omega (arith, e.0), omega (arith, e.0))), λ f. absurd (h k n i f.breaks));
      }

  pub exact_first : {passes : Type 0} {k n i : ℕ} → ¬ passes → First B k n i → Exact B passes (answer k n i)
  exact_first out f =
      record {
        passed = (λ p. absurd (out p), λ h. absurd (h _ _ _ f.breaks));
        refused = λ k n i low high. (λ e. rw (← e.0, ← e.1, ← e.2) f, same f);
      }

not_below : {i j : ℕ} → ¬ (j < i) → i ≤ j
not_below {i} {j} h = ⊎_elim (λ e. absurd (h (ltb-true j i e))) (λ e. ltb-false j i e) (by_test (ltb j i))

-- ---- the numbers that can break

module _ {table program : List ℕ} {lengths : List Bool} {TooSoon : ℕ → ℕ → Type 0} {invalid : Bool} where
  late : {k n i : ℕ} → Breaks table program lengths TooSoon invalid k n i → ((1 ≤ k) × (k ≤ 8) × (n ≡ 0)) ⊎ ((k ≡ 9) × TooSoon n i) ⊎ ((k ≡ 10) × (invalid ≡ true))
  late (limit h) = inl (omega arith, omega arith, refl)
  late (wrong_length i h) = inl (omega arith, omega arith, refl)
  late (no_end i l h) = inl (omega arith, omega arith, refl)
  late (bad_bits i l h) = inl (omega arith, omega arith, refl)
  late (bad_cluster i l h) = inl (omega arith, omega arith, refl)
  late (too_wide i l h) = inl (omega arith, omega arith, refl)
  late (two_writes i l h) = inl (omega arith, omega arith, refl)
  late (bad_control i l h) = inl (omega arith, omega arith, refl)
  late (too_soon p q h) = inr (inl (refl, h))
  late (not_valid h) = inr (inr (refl, h))

  pub numbers : {k n i : ℕ} → Breaks table program lengths TooSoon invalid k n i → (1 ≤ k) × (k ≤ 10)
  numbers b = ⊎_elim (λ h. omega (arith, h.0, h.1)) (⊎_elim (λ h. omega (arith, h.0)) (λ h. omega (arith, h.0))) (late b)

  uncounted : {k n i : ℕ} → Breaks table program lengths TooSoon invalid k n i → k ≤ 8 → n ≡ 0
  uncounted b u = ⊎_elim (λ h. h.2) (⊎_elim (λ h. absurd (omega (arith, h.0))) (λ h. absurd (omega (arith, h.0)))) (late b)

  -- where none up to 8 breaks and no result is touched too soon, 10 alone is left
  pub ten_left : ((l m j : ℕ) → l < 9 → ¬ Breaks table program lengths TooSoon invalid l m j) → ((p q : ℕ) → ¬ TooSoon p q) → (k n i : ℕ) → Breaks table program lengths TooSoon invalid k n i → (k ≡ 10) × (invalid ≡ true)
  ten_left free calm k n i b =
      ⊎_elim (λ h. absurd (free k n i (omega (arith, h.1)) b)) (⊎_elim (λ h. absurd (calm n i h.1)) (λ h. h)) (late b)

-- ---- loading

module _ (table program : List ℕ) (p m s r : Bool) (TooSoon : ℕ → ℕ → Type 0) (invalid : Bool) where
  abbrev lengths : List Bool
  lengths = p ∷ m ∷ s ∷ r ∷ []

  abbrev B : ℕ → ℕ → ℕ → Type 0
  B = Breaks table program lengths TooSoon invalid

  -- ---- one number

  -- what the test of number k says: it breaks nowhere, or there first
  data Gives (k : ℕ) : Loaded → Type 0 where
    clear : ((n j : ℕ) → ¬ B k n j) → Gives k (Ok tt)
    broken : {r : Refusal} {i : ℕ} → refusal_answer r ≡ answer k 0 i → B k 0 i → ((j : ℕ) → B k 0 j → i ≤ j) → Gives k (Err r)

  table_clear : bad_table table ≡ false → (n j : ℕ) → ¬ B 1 n j
  table_clear e n j (limit h) = never_both h e

  gives_table : (b : Bool) → bad_table table ≡ b → Gives 1 (refused_if b BadTable)
  gives_table true e = broken refl (limit e) (λ j b. zero-le)
  gives_table false e = clear (table_clear e)

  length_broken : {n i : ℕ} → B 2 n i → get_or lengths i false ≡ true
  length_broken (wrong_length i h) = h

  -- the place of a length that breaks is none of those that do not
  lengths_before : {i : ℕ} → ((j : ℕ) → j < i → get_or lengths j false ≡ false) → (j : ℕ) → B 2 0 j → i ≤ j
  lengths_before h j b = not_below (λ l. never_both (length_broken b) (h j l))

  gives_lengths : (a b c d : Bool) → p ≡ a → m ≡ b → s ≡ c → r ≡ d
      → Gives 2 (refused_if a ProgramLength otherwise refused_if b MemoryLength otherwise refused_if c StateLength otherwise refused_if d RoomLength)
  gives_lengths true b c d e f g h = broken refl (wrong_length 0 e) (λ j b. zero-le)
  gives_lengths false true c d e f g h = broken refl (wrong_length 1 f) (lengths_before before)
    where
      before : (j : ℕ) → j < 1 → get_or lengths j false ≡ false
      before zero l = e
      before (suc j) l = absurd (omega arith)
  gives_lengths false false true d e f g h = broken refl (wrong_length 2 g) (lengths_before before)
    where
      before : (j : ℕ) → j < 2 → get_or lengths j false ≡ false
      before zero l = e
      before (suc zero) l = f
      before (suc (suc j)) l = absurd (omega arith)
  gives_lengths false false false true e f g h = broken refl (wrong_length 3 h) (lengths_before before)
    where
      before : (j : ℕ) → j < 3 → get_or lengths j false ≡ false
      before zero l = e
      before (suc zero) l = f
      before (suc (suc zero)) l = g
      before (suc (suc (suc j))) l = absurd (omega arith)
  gives_lengths false false false false e f g h = clear (λ n j b. never_both (length_broken b) (all j))
    where
      all : (j : ℕ) → get_or lengths j false ≡ false
      all zero = e
      all (suc zero) = f
      all (suc (suc zero)) = g
      all (suc (suc (suc zero))) = h
      all (suc (suc (suc (suc j)))) = refl

  gives_lowest : {k : ℕ} (r : Place → Refusal) (f : ℕ → Bool) (n : ℕ) → k ≤ 8
      → ((i : Place) → refusal_answer (r i) ≡ answer k 0 i.0)
      → ((i : ℕ) → i < n → f i ≡ true → B k 0 i) → ((i : ℕ) → B k 0 i → (i < n) × (f i ≡ true)) → Gives k (refused_at r (lowest f n))
  gives_lowest {k} r f n few e makes tells = by (lowest f n) (lowest_is f n)
    where
      by : (x : Option Place) → Lowest f n x → Gives k (refused_at r x)
      by (Some i) h = broken (e i) (makes i.0 h.0 h.1) (λ j b. not_below (λ l. never_both (tells j b).1 (h.2 j l)))
      by None h = clear (λ c j b. let (l, t) = tells j (rw (uncounted b few) at b) in never_both t (h j l))

  -- ---- the order of the numbers

  abbrev pub Before : ℕ → Type 0
  Before k = (l c j : ℕ) → l < k → ¬ B l c j

  -- what loading says: no number up to 8 breaks, or one breaks first
  pub data Says : Loaded → Type 0 where
    none : Before 9 → Says (Ok tt)
    first : {r : Refusal} {k i : ℕ} → refusal_answer r ≡ answer k 0 i → First B k 0 i → Says (Err r)

  step : {k : ℕ} {x : Loaded} (y : Loaded) → Before k → Gives k x → (Before (suc k) → Says y) → Says (x otherwise y)
  step y free (clear h) more = more (λ l c j u. ⊎_elim (λ e. rw e (h c j)) (free l c j) (eq-or-lt_of_le (le_of_suc-le-suc u)))
  step y free (broken e b l) more = first e (record { breaks = b; before = free; lowest = λ c j b. zero-le; place = l })

  otherwise_nothing : (x : Loaded) → x otherwise (Ok tt) ≡ x
  otherwise_nothing (Ok tt) = refl
  otherwise_nothing (Err r) = refl

  last : {x : Loaded} → Before 8 → Gives 8 x → Says x
  last {x} free g = rw (← otherwise_nothing x) (step (Ok tt) free g none)

  abbrev pub lengths_by : Loaded
  lengths_by = refused_if p ProgramLength otherwise refused_if m MemoryLength otherwise refused_if s StateLength otherwise refused_if r RoomLength

  pub says : Says (loaded_with lengths_by table program)
  unfolding loaded_with tested_by
  says =
      step _ (λ l c j u b. omega (arith, numbers b)) (gives_table _ refl) λ free.
      step _ free (gives_lengths _ _ _ _ refl refl refl refl) λ free.
      step _ free (gives_lowest NoEnd _ _ (omega arith) (λ i. refl) no_end (λ i b. elim b [ no_end i l h ↦ (l, h) ])) λ free.
      step _ free (gives_lowest BadBits _ _ (omega arith) (λ i. refl) bad_bits (λ i b. elim b [ bad_bits i l h ↦ (l, h) ])) λ free.
      step _ free (gives_lowest BadCluster _ _ (omega arith) (λ i. refl) bad_cluster (λ i b. elim b [ bad_cluster i l h ↦ (l, h) ])) λ free.
      step _ free (gives_lowest TooWide _ _ (omega arith) (λ i. refl) too_wide (λ i b. elim b [ too_wide i l h ↦ (l, h) ])) λ free.
      step _ free (gives_lowest TwoWrites _ _ (omega arith) (λ i. refl) two_writes (λ i b. elim b [ two_writes i l h ↦ (l, h) ])) λ free.
      last free (gives_lowest BadControl _ _ (omega arith) (λ i. refl) bad_control (λ i b. elim b [ bad_control i l h ↦ (l, h) ]))

-- load and check take no memory and no state image
module _ (table program room : List ℕ) (TooSoon : ℕ → ℕ → Type 0) where
  abbrev pub LoadSays : Loaded → Type 0
  LoadSays = Says table program (bad_program_length program) false false (bad_room_length room) TooSoon false

  pub load_says : LoadSays (loaded_of table program room)
  load_says = says table program _ _ _ _ TooSoon false
