-- The examples of check's promise. Whatever touches a result of p too soon stands in a list that computes.
use mathlib.Core.Path.{◌≡◌, refl, sym}
use mathlib.Core.Logic.{⊎_elim}
use mathlib.Core.Bool.{false≢true}
use mathlib.Core.List.Memᴰ
use mathlib.Core.List.{List, [], ◌∷◌, ◌++◌, Memᴰ}
use Prim.Native.Nat.{ℕ, zero, suc, ◌-◌, ◌≤◌, zero-le}
use native.Mathlib.Nat.{eq-or-lt_of_le, le_of_suc-le-suc}
use native.Mathlib.Omega.{arith}
use lib.Dec.{eqb}
use borrow.Author.Tests.{eq-eqb}
use Rattle.word.specs.Bytes.{words}
use Rattle.word.specs.Choice.{pick}
use Rattle.word.specs.Lists.{member}
use Rattle.word.proofs.Lists.{any_some_in}
use Rattle.vliw.specs.Machine.{Dest}
use Rattle.vliw.specs.Schedule.{Reach}
use Rattle.isa.specs.Syllable.{format_of}
use Rattle.isa.specs.Decode.{decode}
use Rattle.isa.specs.declared.Delays.{Delays}
use Rattle.tables.specs.Table.{table_of}
use Rattle.reach.specs.Nexts.{nexts_at}
use Rattle.std.specs.Prelude.{Ok}
use Rattle.schedule.specs.Rule.{dests_at, uses_at, TooSoonAt}
use Rattle.samples.specs.Schedules.{delays, two, three, self, SaidOf, too_soon, Examples}

module _ {A : Type 0} (f : A → List ℕ) where
  abbrev join : List A → List ℕ
  join [] = []
  join (x ∷ xs) = f x ++ join xs

  join_in : {q : ℕ} {x : A} {xs : List A} → Memᴰ x xs → Memᴰ q (f x) → Memᴰ q (join xs)
  join_in (Memᴰ.head {x = y} e) h = Memᴰ.append_left {s = f y} _ (rw (← e) h)
  join_in (Memᴰ.tail {x = y} m) h = Memᴰ.append_right (f y) (join_in m h)

module _ (d : Delays) (program : List ℕ) where
  -- by k nexts
  abbrev later : ℕ → ℕ → List ℕ
  later p zero = p ∷ []
  later p (suc k) = join (nexts_at program) (later p k)

  -- by 1 .. n nexts
  abbrev within : ℕ → ℕ → List ℕ
  within p zero = []
  within p (suc n) = later p (suc n) ++ within p n

  later_in : (p k : ℕ) {q : ℕ} → Reach (nexts_at program) p k q → Memᴰ q (later p k)
  later_in p zero e = Memᴰ.head (sym e)
  later_in p (suc k) (m, h, t) = join_in (nexts_at program) (later_in p k h) t

  within_in : (p n : ℕ) {k q : ℕ} → 1 ≤ k → k ≤ n → Memᴰ q (later p k) → Memᴰ q (within p n)
  within_in p zero a b m = absurd (omega arith)
  within_in p (suc n) {k} a b m =
      ⊎_elim
      (λ (e : k ≡ suc n). Memᴰ.append_left _ (rw e at m))
      (λ l. Memᴰ.append_right (later p (suc n)) (within_in p n a (le_of_suc-le-suc l) m))
      (eq-or-lt_of_le b)

  -- q, if it touches the register
  abbrev touching : ℕ → ℕ → List ℕ
  touching r q = pick (member r (uses_at d program q)) (q ∷ []) []

  touching_in : {r q : ℕ} → Memᴰ r (uses_at d program q) → Memᴰ q (touching r q)
  touching_in {r} {q} m = rw (any_some_in (λ x. eqb r x) m (eq-eqb r r refl)) (Memᴰ.head refl)

  -- what touches a result of p too soon: of one, and of all
  abbrev touchers_of : ℕ → Dest → List ℕ
  touchers_of p e = join (touching e.reg) (within p (e.delay - 1))

  abbrev touchers : ℕ → List ℕ
  touchers p = join (touchers_of p) (dests_at d program p)

  pub soon : {p q : ℕ} → TooSoonAt d program p q → Memᴰ q (touchers p)
  soon {p} t =
      let e : Dest = t.result in
      let near = within_in p (e.delay - 1) t.after (omega (arith, t.before)) (later_in p t.k t.path) in
      join_in (touchers_of p) t.of (join_in (touching e.reg) near (touching_in t.touched))

pub two_on : SaidOf two (too_soon 0 2)
unfolding format_of decode table_of
two_on = (
  record {
    producer = refl;
    result = record { reg = 3; delay = 3 };
    of = Memᴰ.head refl;
    k = 2;
    after = omega arith;
    before = omega arith;
    path = (1, (0, refl, Memᴰ.head refl), Memᴰ.head refl);
    touched = Memᴰ.head refl;
  },
  λ i j t. zero-le,
  λ j t. let e : j ≡ 2 = Memᴰ.eq_of_singleton (soon delays (words two) t) in omega arith,
)

pub looping : SaidOf self (too_soon 0 0)
unfolding format_of decode table_of
looping = (
  record {
    producer = refl;
    result = record { reg = 3; delay = 3 };
    of = Memᴰ.head refl;
    k = 1;
    after = omega arith;
    before = omega arith;
    path = (0, refl, Memᴰ.head refl);
    touched = Memᴰ.head refl;
  },
  λ i j t. zero-le,
  λ j t. zero-le,
)

pub three_on : SaidOf three (Ok tt)
unfolding format_of decode table_of
three_on zero q t = Memᴰ.not-nil (soon delays (words three) t)
three_on (suc zero) q t = Memᴰ.not-nil (soon delays (words three) t)
three_on (suc (suc zero)) q t = Memᴰ.not-nil (soon delays (words three) t)
three_on (suc (suc (suc zero))) q t = Memᴰ.not-nil (soon delays (words three) t)
three_on (suc (suc (suc (suc zero)))) q t = Memᴰ.not-nil (soon delays (words three) t)
three_on (suc (suc (suc (suc (suc p))))) q t = false≢true t.producer

pub examples : Examples
examples = record { two_on = two_on; three_on = three_on; looping = looping }
