-- Laws of what is left of the table's counts: where a syllable takes its part, an instruction is overfull if that was not there, or its
-- other syllables are overfull for what is left.
use mathlib.Core.Path.{◌≡◌, refl, sym, ap, ◌∙◌}
use mathlib.Core.Logic.{⊎_elim}
use mathlib.Core.Bool.{Bool, true, false, ◌||◌, ◌&&◌, or_assoc}
use mathlib.Core.List.{List, [], ◌∷◌}
use Prim.Native.Nat.{ℕ, zero, suc, ◌+◌, ◌-◌, ◌≤◌, ◌<◌, zero-le}
use native.Mathlib.Nat.{add_assoc, zero-add}
use native.Mathlib.Omega.{arith}
use lib.Dec.{eqb, ltb}
use lib.ListN.{get_or, set}
use lib.Seq.{get_or-set_other}
use borrow.Author.Tests.{ltb-true, ltb-false, lt-ltb, le-ltb, eqb-true, eqb-false, eq-eqb, ne_eqb}
use Rattle.word.specs.Choice.{bit}
use Rattle.word.specs.Lists.{any_below, count}
use Rattle.word.proofs.Choice.{by_test, never_both, bool_same, or_true, and_true}
use Rattle.word.proofs.Lists.{any_below_true, any_below_some, any_below_none}
use Rattle.isa.specs.Syllable.{opcode, source, within, is_alu, is_mul, is_mem, is_copy}
use Rattle.isa.specs.Control.{is_control}
use Rattle.isa.specs.Program.{cluster}
use Rattle.isa.specs.declared.Spot.{Spot}
use Rattle.isa.specs.declared.Table.{Table}
use Rattle.isa.proofs.Formats.{within_range, within_false}
use Rattle.refusals.specs.Broken.{here, copies, overfull}

-- ---- tests of all clusters

any_same : (f g : ℕ → Bool) (n : ℕ) → ((k : ℕ) → f k ≡ g k) → any_below f n ≡ any_below g n
any_same f g zero e = refl
any_same f g (suc n) e = rw (e n, any_same f g n e)

swap : (a b c d : Bool) → (a || b) || (c || d) ≡ (a || c) || (b || d)
swap true b c d = refl
swap false true true d = refl
swap false true false d = refl
swap false false c d = refl

any_or : (f g : ℕ → Bool) (n : ℕ) → any_below (λ k. f k || g k) n ≡ any_below f n || any_below g n
any_or f g zero = refl
any_or f g (suc n) = rw (any_or f g n) (swap (f n) (g n) (any_below f n) (any_below g n))

-- a test that only c may pass
any_one : (f : ℕ → Bool) (c n : ℕ) → ((k : ℕ) → eqb c k ≡ false → f k ≡ false) → any_below f n ≡ ltb c n && f c
any_one f c n none = bool_same (any_below f n) (ltb c n && f c) only some
  where
    only : any_below f n ≡ true → ltb c n && f c ≡ true
    only h =
        let (k, l, e) = any_below_true f n h in
        ⊎_elim
        (λ q. let i : c ≡ k = eqb-true c k q in rw (i, lt-ltb k n l) e)
        (λ q. absurd (never_both e (none k q)))
        (by_test (eqb c k))

    some : ltb c n && f c ≡ true → any_below f n ≡ true
    some h = let (l, e) = and_true (ltb c n) (f c) h in any_below_some f n c (ltb-true c n l) e

-- ---- one count of all clusters

lt_split : (a d m : ℕ) → ltb a (d + m) ≡ ltb a d || ltb (a - d) m
lt_split a d m =
    ⊎_elim
    (λ e. rw e (lt-ltb a (d + m) (omega (arith, ltb-true a d e))))
    (λ e. rw e (enough (ltb-false a d e)))
    (by_test (ltb a d))
  where
    enough : d ≤ a → ltb a (d + m) ≡ ltb (a - d) m
    enough h =
        ⊎_elim
        (λ e. rw e (lt-ltb a (d + m) (omega (arith, ltb-true (a - d) m e))))
        (λ e. rw e (le-ltb a (d + m) (omega (arith, ltb-false (a - d) m e))))
        (by_test (ltb (a - d) m))

set_less : (l : List ℕ) (c d : ℕ) → get_or (set l c (get_or l c 0 - d)) c 0 ≡ get_or l c 0 - d
set_less [] c d = omega arith
set_less (x ∷ xs) zero d = refl
set_less (x ∷ xs) (suc c) d = set_less xs c d

-- what a take of some in each cluster says: b, that something was not there, or what is left
abbrev pub Took : ℕ → (ℕ → ℕ) → List ℕ → Bool → List ℕ → Type 0
Took C asked l b m =
    (more : ℕ → ℕ) → any_below (λ k. ltb (get_or l k 0) (asked k + more k)) C ≡ b || any_below (λ k. ltb (get_or m k 0) (more k)) C

module _ (C c : ℕ) where
  abbrev one : ℕ → ℕ
  one k = bit (eqb c k)

  took : (l m : List ℕ) (b : Bool) → ltb c C && ltb (get_or l c 0) 1 ≡ b → ((k : ℕ) → k < C → get_or m k 0 ≡ get_or l k 0 - one k) → Took C one l b m
  took l m b e h more =
      inside C _ _ step
      ∙ any_or (λ k. ltb (get_or l k 0) (one k)) (λ k. ltb (get_or m k 0) (more k)) C
      ∙ ap (λ (x : Bool). x || any_below (λ k. ltb (get_or m k 0) (more k)) C) (any_one (λ k. ltb (get_or l k 0) (one k)) c C none ∙ own ∙ e)
    where
      inside : (n : ℕ) (f g : ℕ → Bool) → ((k : ℕ) → k < n → f k ≡ g k) → any_below f n ≡ any_below g n
      inside zero f g s = refl
      inside (suc n) f g s = rw (s n (omega arith), inside n f g (λ k l. s k (omega arith)))

      step : (k : ℕ) → k < C → ltb (get_or l k 0) (one k + more k) ≡ ltb (get_or l k 0) (one k) || ltb (get_or m k 0) (more k)
      step k b = lt_split (get_or l k 0) (one k) (more k) ∙ ap (λ (n : ℕ). ltb (get_or l k 0) (one k) || ltb n (more k)) (sym (h k b))

      none : (k : ℕ) → eqb c k ≡ false → ltb (get_or l k 0) (one k) ≡ false
      none k q = rw q (le-ltb (get_or l k 0) 0 zero-le)

      own : ltb c C && ltb (get_or l c 0) (one c) ≡ ltb c C && ltb (get_or l c 0) 1
      own = rw (eq-eqb c c refl)

  module _ (l : List ℕ) where
    pub took_outside : C ≤ c → Took C one l false l
    took_outside h = took l l false (rw (le-ltb c C h)) (λ k b. rw (ne_eqb c k (λ e. omega arith)) (omega arith))

    pub took_nothing : c < C → get_or l c 0 ≡ 0 → Took C one l true l
    took_nothing h z = took l l true (rw (lt-ltb c C h, z)) same
      where
        same : (k : ℕ) → k < C → get_or l k 0 ≡ get_or l k 0 - one k
        same k b =
            ⊎_elim
            (λ q. let i : c ≡ k = eqb-true c k q in rw (← i, z) (omega arith))
            (λ q. rw q (omega arith))
            (by_test (eqb c k))

    pub took_one : c < C → (get_or l c 0 ≡ 0 → ⊥) → Took C one l false (set l c (get_or l c 0 - 1))
    took_one h z = took l (set l c (get_or l c 0 - 1)) false (rw (lt-ltb c C h, le-ltb (get_or l c 0) 1 (omega arith))) less
      where
        less : (k : ℕ) → k < C → get_or (set l c (get_or l c 0 - 1)) k 0 ≡ get_or l k 0 - one k
        less k b =
            ⊎_elim
            (λ q. let i : c ≡ k = eqb-true c k q in rw (← i, eq-eqb c c refl) (set_less l c 1))
            (λ q. rw (get_or-set_other l c k (get_or l c 0 - 1) 0 (λ e. eqb-false c k q (sym e))) (rw q (omega arith)))
            (by_test (eqb c k))

-- two clusters of a copy, and one that is both
module _ (C c from : ℕ) where
  abbrev both : ℕ → ℕ
  both k = bit (eqb c k || eqb from k)

  pub took_same : (l m : List ℕ) (b : Bool) → from ≡ c → Took C (one C c) l b m → Took C both l b m
  took_same l m b e h more = any_same _ _ C (λ k. rw (e, or_twice (eqb c k))) ∙ h more
    where
      or_twice : (a : Bool) → a || a ≡ a
      or_twice true = refl
      or_twice false = refl

  pub took_two : (l m n : List ℕ) (b d : Bool) → (from ≡ c → ⊥) → Took C (one C c) l b m → Took C (one C from) m d n → Took C both l (b || d) n
  took_two l m n b d ne h g more =
      any_same _ _ C (λ k. ap (ltb (get_or l k 0)) (ap (λ (i : ℕ). i + more k) (apart (eqb c k) (eqb from k) (never k)) ∙ add_assoc (bit (eqb c k)) (bit (eqb from k)) (more k)))
      ∙ h (λ k. bit (eqb from k) + more k)
      ∙ ap (λ (y : Bool). b || y) (g more)
      ∙ sym (or_assoc b d _)
    where
      never : (k : ℕ) → eqb c k ≡ true → eqb from k ≡ true → ⊥
      never k p q = ne (eqb-true from k q ∙ sym (eqb-true c k p))

      apart : (a e : Bool) → (a ≡ true → e ≡ true → ⊥) → bit (a || e) ≡ bit a + bit e
      apart true true n = absurd (n refl refl)
      apart true false n = refl
      apart false true n = refl
      apart false false n = refl

-- ---- all counts

abbrev or : (ℕ → Bool) → (ℕ → Bool) → ℕ → Bool
or f g k = f k || g k

-- whether f is passed, by b or by what is left of it
abbrev pub Splits : ℕ → (ℕ → Bool) → Bool → (ℕ → Bool) → Type 0
Splits C f b g = any_below f C ≡ b || any_below g C

splits_or : (C : ℕ) (f g u v : ℕ → Bool) (b c : Bool) → Splits C f b u → Splits C g c v → Splits C (or f g) (b || c) (or u v)
splits_or C f g u v b c p q = any_or f g C ∙ rw (p, q, any_or u v C) (swap b (any_below u C) c (any_below v C))

-- more than is left in a cluster
abbrev pub over : (ℕ → Spot → Bool) → List ℕ → List Spot → ℕ → Bool
over f l xs k = ltb (get_or l k 0) (count (f k) xs)

abbrev pub all : ℕ → Spot → Bool
all k x = eqb (cluster x) k

abbrev pub of : (ℕ → Bool) → ℕ → Spot → Bool
of class k = here k class

and_yes : (a : Bool) → a && true ≡ a
and_yes true = refl
and_yes false = refl

pub and_no : (a : Bool) → a && false ≡ false
and_no true = refl
and_no false = refl

module _ (C : ℕ) (x : Spot) (xs : List Spot) where
  -- of one count
  abbrev pub Part : (ℕ → Spot → Bool) → List ℕ → Bool → List ℕ → Type 0
  Part f l b m = Splits C (over f l (x ∷ xs)) b (over f m xs)

  took_part : (f : ℕ → Spot → Bool) (asked : ℕ → ℕ) (l m : List ℕ) (b : Bool) → ((k : ℕ) → bit (f k x) ≡ asked k) → Took C asked l b m → Part f l b m
  took_part f asked l m b e h =
      any_same (over f l (x ∷ xs)) _ C (λ k. ap (λ (n : ℕ). ltb (get_or l k 0) (n + count (f k) xs)) (e k)) ∙ h (λ k. count (f k) xs)

  none_part : (f : ℕ → Spot → Bool) (l : List ℕ) → ((k : ℕ) → f k x ≡ false) → Part f l false l
  none_part f l e = any_same (over f l (x ∷ xs)) (over f l xs) C (λ k. rw (e k, zero-add (count (f k) xs)))

  module _ {c : ℕ} (at : c ≡ cluster x) where
    pub took_all : (l m : List ℕ) (b : Bool) → Took C (one C c) l b m → Part all l b m
    took_all l m b h = took_part all (one C c) l m b (λ k. rw at) h

    pub took_class : (class : ℕ → Bool) (l m : List ℕ) (b : Bool) → class (opcode x.syllable) ≡ true → Took C (one C c) l b m → Part (of class) l b m
    took_class class l m b e h = took_part (of class) (one C c) l m b (λ k. rw (at, e) (ap bit (and_yes (eqb (cluster x) k)))) h

    pub took_copy : {from : ℕ} (l m : List ℕ) (b : Bool) → from ≡ source x.syllable → is_copy (opcode x.syllable) ≡ true → Took C (both C c from) l b m → Part copies l b m
    took_copy {from} l m b s e h = took_part copies (both C c from) l m b (λ k. rw (at, s, e)) h

  pub none_class : (class : ℕ → Bool) (l : List ℕ) → class (opcode x.syllable) ≡ false → Part (of class) l false l
  none_class class l e = none_part (of class) l (λ k. rw e (and_no (eqb (cluster x) k)))

  pub none_copy : (l : List ℕ) → is_copy (opcode x.syllable) ≡ false → Part copies l false l
  none_copy l e = none_part copies l (λ k. rw e)

  -- the width is enough to know
  pub full : (left : Table) (m : List ℕ) → Part all left.width true m → any_below (overfull left (x ∷ xs)) C ≡ true
  full left m p = let (k, l, e) = any_below_true (over all left.width (x ∷ xs)) C p in any_below_some (overfull left (x ∷ xs)) C k l (rw e)

  -- of all five: g is what the four classes say
  pub parts : (left after : Table) (a b d e f g : Bool)
      → Part all left.width a after.width → Part (of is_alu) left.alu b after.alu → Part (of is_mul) left.mul d after.mul
      → Part (of is_mem) left.mem e after.mem → Part copies left.copy f after.copy → b || d || e || f ≡ g
      → any_below (overfull left (x ∷ xs)) C ≡ (a || g) || any_below (overfull after xs) C
  parts left after a b d e f g p q r s t is =
      let all₀ = over all left.width (x ∷ xs) in
      let alu₀ = over (of is_alu) left.alu (x ∷ xs) in
      let mul₀ = over (of is_mul) left.mul (x ∷ xs) in
      let mem₀ = over (of is_mem) left.mem (x ∷ xs) in
      let all₁ = over all after.width xs in
      let alu₁ = over (of is_alu) after.alu xs in
      let mul₁ = over (of is_mul) after.mul xs in
      let mem₁ = over (of is_mem) after.mem xs in
      let two = splits_or C all₀ alu₀ all₁ alu₁ a b p q in
      let three = splits_or C (or all₀ alu₀) mul₀ (or all₁ alu₁) mul₁ (a || b) d two r in
      let four = splits_or C (or (or all₀ alu₀) mul₀) mem₀ (or (or all₁ alu₁) mul₁) mem₁ (a || b || d) e three s in
      splits_or C (or (or (or all₀ alu₀) mul₀) mem₀) (over copies left.copy (x ∷ xs)) (or (or (or all₁ alu₁) mul₁) mem₁) (over copies after.copy xs) (a || b || d || e) f four t
      ∙ ap (λ (z : Bool). z || any_below (overfull after xs) C) (group a ∙ ap (λ (z : Bool). a || z) is)
    where
      group : (a : Bool) → a || b || d || e || f ≡ a || (b || d || e || f)
      group true = refl
      group false = refl

-- ---- an opcode has one class

pub alu_only : (o : ℕ) → is_alu o ≡ true → (is_mul o ≡ false) × (is_mem o ≡ false) × (is_copy o ≡ false)
alu_only o h =
    ⊎_elim
    (λ e. let (p, q) = within_range 1 23 o e in (within_false 24 29 o (λ m n. omega arith), within_false 52 59 o (λ m n. omega arith), ne_eqb o 60 (λ m. omega arith)))
    (λ e. let (p, q) = within_range 30 51 o e in (within_false 24 29 o (λ m n. omega arith), within_false 52 59 o (λ m n. omega arith), ne_eqb o 60 (λ m. omega arith)))
    (or_true (within 1 23 o) (within 30 51 o) h)

pub mul_only : (o : ℕ) → is_mul o ≡ true → (is_mem o ≡ false) × (is_copy o ≡ false)
mul_only o h = let (p, q) = within_range 24 29 o h in (within_false 52 59 o (λ m n. omega arith), ne_eqb o 60 (λ m. omega arith))

pub mem_only : (o : ℕ) → is_mem o ≡ true → is_copy o ≡ false
mem_only o h = let (p, q) = within_range 52 59 o h in ne_eqb o 60 (λ m. omega arith)

-- the counts that are left, as a table
abbrev pub left_of : ℕ → List ℕ → List ℕ → List ℕ → List ℕ → List ℕ → Table
left_of C width alu mul mem copy =
    record {
      clusters = C;
      width = width;
      alu = alu;
      mul = mul;
      mem = mem;
      copy = copy;
      delays = record { alu = 0; cmpb = 0; mul = 0; load = 0; copy = 0 };
    }

-- ---- a walk over an instruction's syllables

-- whether xs break 6 for what is left, after a control syllable or none
abbrev pub rest : ℕ → Table → Bool → List Spot → Bool
rest C left controlled xs = any_below (overfull left xs) C || ltb 1 (bit controlled + count (λ x. is_control x.syllable) xs)

pub rest_none : (C : ℕ) (left : Table) (controlled : Bool) → rest C left controlled [] ≡ false
rest_none C left controlled = rw (any_below_none (overfull left []) C nothing) (one controlled)
  where
    nothing : (k : ℕ) → k < C → overfull left [] k ≡ false
    nothing k l =
        rw
        (le-ltb (get_or left.width k 0) 0 zero-le, le-ltb (get_or left.alu k 0) 0 zero-le, le-ltb (get_or left.mul k 0) 0 zero-le, le-ltb (get_or left.mem k 0) 0 zero-le, le-ltb (get_or left.copy k 0) 0 zero-le)

    one : (t : Bool) → ltb 1 (bit t + 0) ≡ false
    one true = refl
    one false = refl

pub rest_on : (C : ℕ) (left after : Table) (controlled b : Bool) {t : Bool} (x : Spot) (xs : List Spot)
    → any_below (overfull left (x ∷ xs)) C ≡ b || any_below (overfull after xs) C → t ≡ is_control x.syllable
    → rest C left controlled (x ∷ xs) ≡ (b || (controlled && t)) || rest C after (controlled || t) xs
rest_on C left after controlled b {t} x xs p q =
    rw (p, ← q, second controlled t) (swap b (any_below (overfull after xs) C) (controlled && t) _)
  where
    n : ℕ
    n = count (λ y. is_control y.syllable) xs

    second : (s u : Bool) → ltb 1 (bit s + (bit u + n)) ≡ (s && u) || ltb 1 (bit (s || u) + n)
    second true true = lt-ltb 1 (1 + (1 + n)) (omega arith)
    second true false = rw (zero-add n)
    second false true = rw (zero-add (1 + n))
    second false false = rw (zero-add (0 + n))
