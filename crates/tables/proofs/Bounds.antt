-- The table's limits: how the loops test them, and what the crates above rely on.
use mathlib.Core.Path.{◌≡◌, refl}
use mathlib.Core.List.{List}
use mathlib.Core.Bool.{Bool, true, false, ◌||◌}
use Prim.Native.Nat.{ℕ, zero, suc, ◌+◌, ◌≤◌, ◌<◌}
use native.Mathlib.Nat.{add-zero, zero-add}
use native.Mathlib.Numerals.{add-one}
use native.Mathlib.Omega.{arith}
use lib.Dec.{ltb, leb, lit<}
use lib.ListN.{get_or}
use borrow.Author.Count.{below_none, below_more}
use borrow.Author.Tests.{ltb-true, ltb-false}
use Rattle.std.specs.List.{list_any, range_with_len}
use Rattle.word.specs.Choice.{pick}
use Rattle.word.specs.Lists.{any_below}
use Rattle.isa.specs.Syllable.{is_alu, is_mul, is_mem}
use Rattle.isa.specs.Touch.{delay_of}
use Rattle.isa.specs.declared.Table.{Table}
use Rattle.isa.proofs.Steps.{either_way}
use Rattle.tables.specs.Table.{clusters_of, unit, delay, outside, bad_units, column, bad_table, table_of}
use Rattle.tables.specs.Bounds.{Between, Bounds}

or_swap : (x y z : Bool) → x || (y || z) ≡ y || (x || z)
or_swap true true z = refl
or_swap true false z = refl
or_swap false y z = refl

-- a test of the numbers from 0 up is a test of those below n
snoc : (f : ℕ → Bool) (a n : ℕ) → list_any f (range_with_len a (suc n)) ≡ f (a + n) || list_any f (range_with_len a n)
snoc f a zero = rw add-zero
snoc f a (suc n) =
    let e : a + suc n ≡ a + 1 + n = omega arith in
    rw (snoc f (a + 1) n, e) (or_swap (f a) (f (a + 1 + n)) (list_any f (range_with_len (a + 1) n)))

pub any_range : (f : ℕ → Bool) (n : ℕ) → list_any f (range_with_len 0 n) ≡ any_below f n
any_range f zero = refl
any_range f (suc n) = rw (snoc f 0 n, zero-add, any_range f n)

neither : (a b : Bool) → (a || b) ≡ false → (a ≡ false) × (b ≡ false)
neither true b e = (e, cc)
neither false b e = (refl, e)

none_below : (f : ℕ → Bool) (n : ℕ) → any_below f n ≡ false → (k : ℕ) → k < n → f k ≡ false
none_below f zero e = below_none (λ (i : ℕ). f i ≡ false)
none_below f (suc n) e =
    let p = neither (f n) (any_below f n) e in
    rw (← add-one n) (below_more (λ (i : ℕ). f i ≡ false) n (none_below f n p.1) p.0)

inside : (bytes : List ℕ) (least most x : ℕ) → outside bytes least most x ≡ false → Between least most x
inside bytes least most x e =
    let h = neither (ltb x least) (ltb most x) e in
    (ltb-false x least h.0, ltb-false most x h.1)

-- a count of all four clusters is at most n where those below C are
column_below : (bytes : List ℕ) (j n : ℕ) → ((k : ℕ) → k < clusters_of bytes → unit bytes j k ≤ n) → (k : ℕ) → get_or (column bytes j) k 0 ≤ n
column_below bytes j n h = at
  where
    go : (k : ℕ) (b : Bool) → ltb k (clusters_of bytes) ≡ b → pick b (unit bytes j k) 0 ≤ n
    go k true e = h k (ltb-true k (clusters_of bytes) e)
    go k false e = omega arith

    at : (k : ℕ) → get_or (column bytes j) k 0 ≤ n
    at zero = go 0 _ refl
    at (suc zero) = go 1 _ refl
    at (suc (suc zero)) = go 2 _ refl
    at (suc (suc (suc zero))) = go 3 _ refl
    at (suc (suc (suc (suc k)))) = omega arith

-- of each cluster the width, and each delay
width_in : (bytes : List ℕ) (k : ℕ) → bad_units bytes k ≡ false → unit bytes 0 k ≤ 8
width_in bytes k e =
    let alu = neither _ _ (neither _ _ (neither _ _ e).0).0 in
    (inside bytes 1 8 (unit bytes 0 k) (neither _ _ alu.0).0).1

delay_in : (bytes : List ℕ) → any_below (λ j. outside bytes 1 8 (delay bytes j)) 5 ≡ false → (j : ℕ) → j < 5 → Between 1 8 (delay bytes j)
delay_in bytes e j h = inside bytes 1 8 (delay bytes j) (none_below (λ i. outside bytes 1 8 (delay bytes i)) 5 e j h)

pub bounds : (bytes : List ℕ) → bad_table bytes ≡ false → Bounds (table_of bytes)
unfolding bad_table table_of
bounds bytes e =
    let h = neither _ _ e in
    let k = neither _ _ h.0 in
    record {
      clusters = inside bytes 1 4 (clusters_of bytes) (neither _ _ k.0).0;
      alu = delay_in bytes h.1 0 (lit< tt);
      cmpb = delay_in bytes h.1 1 (lit< tt);
      mul = delay_in bytes h.1 2 (lit< tt);
      load = delay_in bytes h.1 3 (lit< tt);
      copy = delay_in bytes h.1 4 (lit< tt);
      width = column_below bytes 0 8 λ i p. width_in bytes i (none_below (bad_units bytes) (clusters_of bytes) k.1 i p);
    }

-- so has every result a delay from 1 to 8
pub delay_bounds : (t : Table) → Bounds t → (o r : ℕ) → Between 1 8 (delay_of t.delays o r)
delay_bounds t h o r =
    either_way (Between 1 8) (leb 256 r) _ _ h.cmpb
    (either_way (Between 1 8) (is_alu o) _ _ h.alu
    (either_way (Between 1 8) (is_mul o) _ _ h.mul (either_way (Between 1 8) (is_mem o) _ _ h.load h.copy)))
