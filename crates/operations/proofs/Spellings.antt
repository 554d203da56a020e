-- Words: names, clusters, registers. What a word is read as is what it spells, and the other way round.
use mathlib.Core.Path.{◌≡◌, refl, sym, ap, ap₂}
use mathlib.Core.Bool.{Bool, true, false, ◌&&◌}
use mathlib.Core.List.{List, [], ◌∷◌}
use Prim.Native.Nat.{ℕ, ◌+◌, ◌*◌, ◌-◌, ◌/◌, ◌%◌, ◌≤◌, ◌<◌}
use native.Mathlib.Omega.{arith}
use borrow.Author.Tests.{eqb-true, leb-true, ltb-true, ltb-false, le-leb, lt-ltb, le-ltb}
use lib.Dec.{eqb, leb, ltb}
use Rattle.std.specs.Prelude.{Option, Some, None}
use Rattle.word.specs.Choice.{pick}
use Rattle.word.proofs.Choice.{and_true}
use Rattle.tokens.specs.Tokens.{between, is_decimal}
use Rattle.operations.specs.Grammar.{cluster_word, number_word, register_word}
use Rattle.operations.specs.Reader.{cluster_in, number_in, limit, register_of, register_in}
use Rattle.operations.specs.declared.Register.{Register}

pub between_true : (low high b : ℕ) → between low high b ≡ true → (low ≤ b) × (b ≤ high)
between_true low high b e = let t = and_true (leb low b) (leb b high) e in (leb-true low b t.0, leb-true b high t.1)

pub within : (low high b : ℕ) → low ≤ b → b ≤ high → between low high b ≡ true
within low high b h k = rw (le-leb low b h, le-leb b high k)

pub none_not_some : {A : Type 0} {a : A} → None ≡ Some a → ⊥
none_not_some e = let z : ◌≡◌ {A = ℕ} 0 1 = cc in omega arith

pub some_same : {A : Type 0} {a b : A} → Some a ≡ Some b → a ≡ b
some_same e = cc

pub picked_some : {A : Type 0} (x : Bool) {a b : A} → pick x (Some a) None ≡ Some b → (x ≡ true) × (a ≡ b)
picked_some true e = (refl, some_same e)
picked_some false e = absurd (none_not_some e)

pub cluster_sound : (w : List ℕ) {c : ℕ} → cluster_in w ≡ Some c → (w ≡ cluster_word c) × (c < 4)
cluster_sound [] e = absurd (none_not_some e)
cluster_sound (a ∷ []) e = absurd (none_not_some e)
cluster_sound (a ∷ d ∷ []) {c} e =
    let p = picked_some (eqb a 99 && between 48 51 d) e in
    let t = and_true (eqb a 99) (between 48 51 d) p.0 in
    let i = between_true 48 51 d t.1 in
    let k : d - 48 ≡ c = p.1 in
    (ap₂ (λ (x y : ℕ). x ∷ y ∷ []) (eqb-true a 99 t.0) (omega arith), omega arith)
cluster_sound (a ∷ d ∷ f ∷ w) e = absurd (none_not_some e)

pub cluster_complete : (c : ℕ) → c < 4 → cluster_in (cluster_word c) ≡ Some c
cluster_complete c h =
    let d : 48 + c - 48 ≡ c = omega arith in
    rw (within 48 51 (48 + c) (omega arith) (omega arith), d)

pub number_sound : (w : List ℕ) {n : ℕ} → number_in w ≡ Some n → w ≡ number_word n
number_sound [] e = absurd (none_not_some e)
number_sound (d ∷ []) {n} e =
    let p = picked_some (is_decimal d) e in
    let i = between_true 48 57 d p.0 in
    let k : d - 48 ≡ n = p.1 in
    rw (lt-ltb n 10 (omega arith)) (ap (λ (x : ℕ). x ∷ []) (omega arith))
number_sound (d ∷ e ∷ []) {n} h =
    let p = picked_some (between 49 57 d && is_decimal e) h in
    let u = and_true (between 49 57 d) (is_decimal e) p.0 in
    let i = between_true 49 57 d u.0 in
    let j = between_true 48 57 e u.1 in
    let k : (d - 48) * 10 + (e - 48) ≡ n = p.1 in
    rw (le-ltb n 10 (omega arith)) (ap₂ (λ (x y : ℕ). x ∷ y ∷ []) (omega arith) (omega arith))
number_sound (d ∷ e ∷ f ∷ w) h = absurd (none_not_some h)

pub number_complete : (n : ℕ) → n < 100 → number_in (number_word n) ≡ Some n
number_complete n h = go (ltb n 10) refl
  where
    tens : 10 ≤ n → number_in ((48 + n / 10) ∷ (48 + n % 10) ∷ []) ≡ Some n
    tens k =
        let d : (48 + n / 10 - 48) * 10 + (48 + n % 10 - 48) ≡ n = omega arith in
        rw (within 49 57 (48 + n / 10) (omega arith) (omega arith), within 48 57 (48 + n % 10) (omega arith) (omega arith), d)

    go : (x : Bool) → ltb n 10 ≡ x → number_in (pick x ((48 + n) ∷ []) ((48 + n / 10) ∷ (48 + n % 10) ∷ [])) ≡ Some n
    go true e =
        let k = ltb-true n 10 e in
        let d : 48 + n - 48 ≡ n = omega arith in
        rw (within 48 57 (48 + n) (omega arith) (omega arith), d)
    go false e = tens (ltb-false n 10 e)

pub limit_below : (letter : ℕ) → limit letter ≤ 64
limit_below letter = go (eqb letter 114) (eqb letter 98) (eqb letter 108)
  where
    go : (x y z : Bool) → pick x 64 (pick y 8 (pick z 1 0)) ≤ 64
    go true y z = omega arith
    go false true z = omega arith
    go false false true = omega arith
    go false false false = omega arith

pub record Reads (w : List ℕ) (x : Register) : Type 0 where
  pub spelt : w ≡ register_word x.letter x.cluster x.number
  pub cluster : x.cluster < 4
  pub number : x.number < limit x.letter

register_of_is : (m c : ℕ) (g : Option ℕ) {x : Register} → register_of m c g ≡ Some x → (x.letter ≡ m) × (x.cluster ≡ c) × (g ≡ Some x.number) × (x.number < limit m)
register_of_is m c None e = absurd (none_not_some e)
register_of_is m c (Some n) {x} e =
    let p = picked_some (ltb n (limit m)) e in
    let k = ltb-true n (limit m) p.0 in
    let letters : x.letter ≡ m = sym (ap (λ (y : Register). y.letter) p.1) in
    let clusters : x.cluster ≡ c = sym (ap (λ (y : Register). y.cluster) p.1) in
    let numbers : n ≡ x.number = ap (λ (y : Register). y.number) p.1 in
    (letters, clusters, ap Some numbers, rw numbers at k)

taken : {A : Type 0} (x : Bool) {g : Option A} {a : A} → pick x g None ≡ Some a → (x ≡ true) × (g ≡ Some a)
taken true e = (refl, e)
taken false e = absurd (none_not_some e)

pub register_sound : (w : List ℕ) {x : Register} → register_in w ≡ Some x → Reads w x
register_sound [] e = absurd (none_not_some e)
register_sound (a ∷ []) e = absurd (none_not_some e)
register_sound (a ∷ m ∷ []) e = absurd (none_not_some e)
register_sound (a ∷ m ∷ d ∷ []) e = absurd (none_not_some e)
register_sound (a ∷ m ∷ d ∷ p ∷ w) {x} e =
    let g = taken (eqb a 36 && eqb p 46 && between 48 51 d) e in
    let t2 = and_true (eqb a 36 && eqb p 46) (between 48 51 d) g.0 in
    let t1 = and_true (eqb a 36) (eqb p 46) t2.0 in
    let i = between_true 48 51 d t2.1 in
    let q = register_of_is m (d - 48) (number_in w) g.1 in
    let first : a ≡ 36 = eqb-true a 36 t1.0 in
    let point : p ≡ 46 = eqb-true p 46 t1.1 in
    let clusters : x.cluster ≡ d - 48 = q.1 in
    let tail : w ≡ number_word x.number = number_sound w q.2 in
    let digit : d ≡ 48 + x.cluster = omega arith in
    record {
      spelt = rw (first, point, digit, ← q.0) (ap (λ (v : List ℕ). 36 ∷ x.letter ∷ (48 + x.cluster) ∷ 46 ∷ v) tail);
      cluster = omega arith;
      number = rw (← q.0) at q.3;
    }

pub register_complete : (letter c n : ℕ) → c < 4 → n < limit letter → register_in (register_word letter c n) ≡ Some (record { letter = letter; cluster = c; number = n })
register_complete letter c n h k =
    let b = limit_below letter in
    let d : 48 + c - 48 ≡ c = omega arith in
    rw (number_complete n (omega arith), within 48 51 (48 + c) (omega arith) (omega arith), lt-ltb n (limit letter) k, d)
