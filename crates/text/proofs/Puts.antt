-- Laws of what is put into the output.
use mathlib.Core.Path.{◌≡◌, refl, sym, ap, ◌∙◌}
use mathlib.Core.List.{List, [], ◌∷◌, ◌++◌, append_assoc, append-nil}
use Prim.Native.Nat.{ℕ, zero, suc, ◌+◌, ◌-◌, ◌/◌, ◌%◌, ◌≤◌, ◌<◌}
use native.Mathlib.Numerals.{add-one}
use native.Mathlib.Omega.{arith}
use lib.ListN.{length, drop, set, replicate, length-append, length-replicate}
use lib.Seq.{sets, set_comm, sets-eq, length-sets, take_at, drop-length}
use borrow.Author.Tests.{ne_eqb}
use Rattle.std.specs.List.{refill}
use Rattle.word.proofs.Bytes.{sets_append}
use Rattle.lines.specs.Digits.{digit, hex}
use Rattle.text.specs.Rows.{field, fields, register_row, each}

pub hex_length : (n v : ℕ) → length (hex n v) ≡ n
hex_length zero v = refl
hex_length (suc n) v = omega (arith, hex_length n (v / 16), length-append (hex n (v / 16)) (digit (v % 16) ∷ []))

pub field_length : (n v after : ℕ) → length (field n v after) ≡ n + 1
field_length n v after = omega (arith, hex_length n v, length-append (hex n v) (after ∷ []))

pub fields_length : (x n y z : ℕ) → length (fields x n y z) ≡ n + 13
unfolding fields
fields_length x n y z =
    omega (
      arith,
      length-append (field 2 x 32) (field n y 32 ++ field 8 z 10),
      length-append (field n y 32) (field 8 z 10),
      field_length 2 x 32,
      field_length n y 32,
      field_length 8 z 10,
    )

-- ---- put at a place

-- a store behind a run of stores
set_after : (l : List ℕ) (at : ℕ) (xs : List ℕ) (j x : ℕ) → at + length xs ≤ j → sets (set l j x) at xs ≡ set (sets l at xs) j x
set_after l at [] j x h = refl
set_after l at (y ∷ xs) j x h =
    ap (λ (m : List ℕ). sets m (suc at) xs) (set_comm l j at x y (λ e. omega arith)) ∙ set_after (set l at y) (suc at) xs j x (omega arith)

-- the last digit, and then those before it
pub digit_first : (l : List ℕ) (at n v : ℕ) → 0 < n → sets (set l (at + (n - 1)) (digit (v % 16))) at (hex (n - 1) (v / 16)) ≡ sets l at (hex n v)
digit_first l at zero v h = absurd (omega arith)
digit_first l at (suc n) v h =
    let e : suc n - 1 ≡ n = omega arith in
    let d : ℕ = digit (v % 16) in
    let xs : List ℕ = hex n (v / 16) in
    let k : at + length xs ≡ at + n = omega (arith, hex_length n (v / 16)) in
    rw e (set_after l at xs (at + n) d (omega arith) ∙ sets_append l at xs (d ∷ []) k)

pub field_put : (l : List ℕ) (at n v after : ℕ) → set (sets l at (hex n v)) (at + n) after ≡ sets l at (field n v after)
field_put l at n v after = sets_append l at (hex n v) (after ∷ []) (omega (arith, hex_length n v))

pub fields_put : (l : List ℕ) (at x n y z : ℕ)
    → sets (sets (sets l at (field 2 x 32)) (at + 3) (field n y 32)) (at + n + 4) (field 8 z 10) ≡ sets l at (fields x n y z)
unfolding fields
fields_put l at x n y z =
    sets_append (sets l at (field 2 x 32)) (at + 3) (field n y 32) (field 8 z 10) (omega (arith, field_length n y 32))
    ∙ sets_append l at (field 2 x 32) (field n y 32 ++ field 8 z 10) (omega (arith, field_length 2 x 32))

-- ---- put into zeros behind what is there

zero_behind : (l : List ℕ) (n : ℕ) → (l ++ replicate n 0) ++ (0 ∷ []) ≡ l ++ replicate (suc n) 0
zero_behind [] zero = refl
zero_behind [] (suc n) = ap (λ (m : List ℕ). 0 ∷ m) (zero_behind [] n)
zero_behind (x ∷ l) n = ap (λ (m : List ℕ). x ∷ m) (zero_behind l n)

-- a zero more
pub zero_more : (l : List ℕ) (n : ℕ) → (l ++ replicate n 0) ++ (0 ∷ []) ≡ l ++ replicate (n + 1) 0
zero_more l n = rw add-one (zero_behind l n)

pub zeros_none : (l : List ℕ) → l ≡ l ++ replicate 0 0
zeros_none l = sym (append-nil l)

put_all : (l xs : List ℕ) {n : ℕ} → length xs ≡ n → sets (l ++ replicate n 0) (length l) xs ≡ l ++ xs
put_all l xs {n} e =
    let all : List ℕ = l ++ replicate n 0 in
    let whole : length l + length xs ≡ length all = omega (arith, length-append l (replicate n 0), length-replicate {A = ℕ} n 0) in
    rw (sets-eq xs all (length l) (omega arith), take_at l (replicate n 0) (length l) refl, whole, drop-length) (append-nil (l ++ xs))

refilled : (l xs : List ℕ) {n : ℕ} → length xs ≡ n
    → (let all : List ℕ = l ++ replicate n 0 in refill (length all) all (sets all (length l) xs) ≡ l ++ xs)
refilled l xs {n} e =
    let all : List ℕ = l ++ replicate n 0 in
    let put : List ℕ = sets all (length l) xs in
    take_at put (drop (length put) all) (length all) (length-sets all (length l) xs) ∙ put_all l xs e

-- what was lent of the vector, put, is behind what it had
pub put_behind : (l xs : List ℕ) {n from : ℕ} {all lent put : List ℕ} → length xs ≡ n → from ≡ length l → all ≡ l ++ replicate n 0 → lent ≡ all
    → put ≡ sets lent from xs → refill (length all) all put ≡ l ++ xs
put_behind l xs h from all lent put = rw (put, lent, all, from) (refilled l xs h)

-- ---- the line of a register, of which the value was read

module _ (c r : ℕ) {v w : ℕ} (e : v ≡ w) where
  pub silent : v ≡ 0 → register_row c r w ≡ []
  silent z = rw (← e, z)

  pub shown : (v ≡ 0 → ⊥) → register_row c r w ≡ fields c 2 r v
  shown n = rw (← e, ne_eqb v 0 n)

-- ---- one after the other

pub each_none : (f : ℕ → List ℕ) (l : List ℕ) → l ≡ l ++ each f 0
unfolding each
each_none f l = sym (append-nil l)

pub each_more : (f : ℕ → List ℕ) (l : List ℕ) (i : ℕ) → (l ++ each f i) ++ f i ≡ l ++ each f (i + 1)
unfolding each
each_more f l i = rw add-one (append_assoc l (each f i) (f i))

pub ruleset zero_laws = (zeros_none, zero_more)

pub ruleset register_laws = (fields_length, silent, shown, append-nil)

pub ruleset each_laws = (each_none, each_more)
