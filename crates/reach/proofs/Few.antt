-- What is reached by at most seven nexts is at most 254 places, since there are at most two nexts each.
use mathlib.Core.Path.{◌≡◌, sym}
use mathlib.Core.Logic.{⊎_elim}
use mathlib.Core.Bool.{Bool}
use mathlib.Core.List.Memᴰ
use mathlib.Core.List.{List, [], ◌∷◌, ◌++◌, Memᴰ}
use Prim.Native.Nat.{ℕ, zero, suc, ◌+◌, ◌-◌, ◌*◌, ◌^◌, ◌≤◌, ◌<◌, zero-le}
use native.Mathlib.Nat.{le_refl, eq-or-lt_of_le, eq-zero-or-pos, le_of_suc-le-suc, pow-succ'}
use native.Mathlib.Omega.{arith}
use lib.Dec.{ltb}
use lib.Pow.{pow_mono}
use lib.ListN.{length, length-append}
use borrow.Author.Tests.{ltb-true, lt-ltb, le-ltb}
use Rattle.word.specs.Choice.{bit}
use Rattle.word.specs.Lists.{count}
use Rattle.word.proofs.Choice.{by_test}
use Rattle.word.proofs.Lists.{count_le}
use Rattle.vliw.specs.Schedule.{Reach}
use Rattle.isa.specs.Program.{following, operations_at}
use Rattle.isa.specs.Touch.{nexts_by, nexts}
use Rattle.isa.specs.declared.Way.{Way}
use Rattle.isa.specs.declared.Way.TheVariants.{Along, Stop, Goto, Branch, Call, Return}
use Rattle.isa.specs.declared.Op.{Op}
use Rattle.reach.specs.Nexts.{nexts_at}
use Rattle.reach.specs.declared.Near.{Near}
use Rattle.reach.specs.Near.{place_at, steps_at, Ordered}

-- ---- ascending numbers that stand in a list are no more than the list has

abbrev below : ℕ → ℕ → Bool
below a y = ltb y a

bit_more : (a b y : ℕ) → a ≤ b → bit (below a y) ≤ bit (below b y)
bit_more a b y h = ⊎_elim (λ e. rw (e, lt-ltb y b (omega (arith, ltb-true y a e))) (omega arith)) (λ e. rw e zero-le) (by_test (ltb y a))

count_more : (a b : ℕ) (l : List ℕ) → a ≤ b → count (below a) l ≤ count (below b) l
count_more a b [] h = zero-le
count_more a b (y ∷ ys) h = omega (arith, bit_more a b y h, count_more a b ys h)

count_past : {a b y : ℕ} {l : List ℕ} → Memᴰ y l → a ≤ y → y < b → count (below a) l < count (below b) l
count_past {a} {b} {y} (Memᴰ.head {xs = ys} e) h k = rw (← e, le-ltb y a h, lt-ltb y b k) (omega (arith, count_more a b ys (omega arith)))
count_past {a} {b} (Memᴰ.tail {x = x} m) h k = omega (arith, bit_more a b x (omega arith), count_past m h k)

module _ (x : ℕ → ℕ) (n : ℕ) (l : List ℕ) (up : (i j : ℕ) → i < j → j < n → x i < x j) (each : (i : ℕ) → i < n → Memᴰ (x i) l) where
  rank : (i : ℕ) → i < n → i ≤ count (below (x i)) l
  rank zero h = zero-le
  rank (suc i) h = omega (arith, rank i (omega arith), count_past (each i (omega arith)) (le_refl (x i)) (up i (suc i) (omega arith) h))

  no_more : n ≤ length l
  no_more = ⊎_elim (λ e. omega arith) (λ h. last (n - 1) (omega arith)) (eq-zero-or-pos n)
    where
      last : (i : ℕ) → suc i ≡ n → n ≤ length l
      last i e = omega (arith, rank i (omega arith), count_past (each i (omega arith)) (le_refl (x i)) (le_refl (suc (x i))), count_le (below (suc (x i))) l)

-- ---- the places that are reached

module _ (next : ℕ → List ℕ) (two : (m : ℕ) → length (next m) ≤ 2) (p : ℕ) where
  abbrev join : List ℕ → List ℕ
  join [] = []
  join (m ∷ ms) = next m ++ join ms

  -- by k nexts
  abbrev ends : ℕ → List ℕ
  ends zero = p ∷ []
  ends (suc k) = join (ends k)

  -- by 1 .. k nexts
  abbrev upto : ℕ → List ℕ
  upto zero = []
  upto (suc k) = ends (suc k) ++ upto k

  join_in : {q m : ℕ} {ms : List ℕ} → Memᴰ m ms → Memᴰ q (next m) → Memᴰ q (join ms)
  join_in (Memᴰ.head {x = x} e) h = Memᴰ.append_left {s = next x} _ (rw (← e) h)
  join_in (Memᴰ.tail {x = x} m) h = Memᴰ.append_right (next x) (join_in m h)

  ends_in : (k : ℕ) {q : ℕ} → Reach next p k q → Memᴰ q (ends k)
  ends_in zero e = Memᴰ.head (sym e)
  ends_in (suc k) (m, h, t) = join_in (ends_in k h) t

  upto_in : {k q : ℕ} (n : ℕ) → 1 ≤ k → k ≤ n → Memᴰ q (ends k) → Memᴰ q (upto n)
  upto_in zero a b m = absurd (omega arith)
  upto_in {k} (suc n) a b m =
      ⊎_elim (λ (e : k ≡ suc n). Memᴰ.append_left _ (rw e at m)) (λ l. Memᴰ.append_right (ends (suc n)) (upto_in n a (le_of_suc-le-suc l) m)) (eq-or-lt_of_le b)

  join_few : (ms : List ℕ) → length (join ms) ≤ 2 * length ms
  join_few [] = zero-le
  join_few (m ∷ ms) = omega (arith, length-append (next m) (join ms), two m, join_few ms)

  ends_few : (k : ℕ) → length (ends k) ≤ 2 ^ k
  ends_few zero = omega arith
  ends_few (suc k) = omega (arith, join_few (ends k), ends_few k, pow-succ' 2 k)

  upto_few : (n : ℕ) → length (upto n) + 2 ≤ 2 ^ suc n
  upto_few zero = omega arith
  upto_few (suc n) = omega (arith, length-append (ends (suc n)) (upto n), ends_few (suc n), upto_few n, pow-succ' 2 (suc n))

  few : {most : ℕ} (r : List Near) → most ≤ 7 → Ordered r most
      → ((i : ℕ) → i < length r → (1 ≤ steps_at r i) × Reach next p (steps_at r i) (place_at r i)) → length r ≤ 254
  few {most} r b o sound =
      let h = no_more (place_at r) (length r) (upto most) o.ascending (λ i l. upto_in most (sound i l).0 (o.low i l) (ends_in (steps_at r i) (sound i l).1)) in
      omega (arith, upto_few most, pow_mono {i = suc most} {j = 8} (omega arith))

-- ---- an instruction has at most two nexts

by_way : (w : Way) (f : ℕ) (others : List ℕ) → length others ≤ 2 → length (nexts_by w f others) ≤ 2
by_way Along f others h = h
by_way Stop f others h = zero-le
by_way (Goto t) f others h = omega arith
by_way (Branch v t) f others h = omega arith
by_way (Call t) f others h = omega arith
by_way Return f others h = zero-le

at_most_two : (f : ℕ) (os : List Op) → length (nexts f os) ≤ 2
at_most_two f [] = omega arith
at_most_two f (o ∷ os) = by_way o.way f (nexts f os) (at_most_two f os)

pub few_in : {most : ℕ} (p : List ℕ) (from : ℕ) (r : List Near) → most ≤ 7 → Ordered r most
    → ((i : ℕ) → i < length r → (1 ≤ steps_at r i) × Reach (nexts_at p) from (steps_at r i) (place_at r i)) → length r ≤ 254
few_in p from r = few (nexts_at p) (λ i. at_most_two (following p i) (operations_at p i)) from r
