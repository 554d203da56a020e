-- A syllable is the sum of its fields, each times 2 to its lowest bit; so it is rebuilt exactly if the bits not named are zero.
use mathlib.Core.Path.{◌≡◌, refl, sym, ap}
use mathlib.Core.Bool.{Bool, true, false, ◌||◌}
use mathlib.Core.Logic.{◌↔◌}
use Prim.Native.Nat.{ℕ, ◌+◌, ◌-◌, ◌*◌, ◌/◌, ◌%◌, ◌^◌, ◌<◌}
use native.Mathlib.Nat.{mod-one, div-one, mod-lt, mod-eq_of_lt, add-mul-mod_self_right}
use native.Mathlib.Omega.{arith}
use lib.Dec.{eqb, ltb}
use lib.Pow.{pow_pos, mod-pow-add, high_ones}
use borrow.Author.Tests.{eqb-true, eqb-false, ltb-false, le-ltb, not-false}
use Rattle.word.specs.Choice.{pick}
use Rattle.word.specs.Widen.{widen}
use Rattle.word.proofs.Choice.{or_false}
use Rattle.isa.specs.Syllable.{bits, opcode, format_of}
use Rattle.isa.specs.Register.{general, branch}
use Rattle.isa.specs.Decode.{decode_as, decode}
use Rattle.isa.specs.declared.Format.{Format}
use Rattle.isa.specs.declared.Format.TheVariants.{Still, Two, One, Carry, Test, Select, Load, Store, Copy, Jump, Fork}
use Rattle.isa.proofs.Decoded.{decoded}
use Rattle.zero.specs.Zero.{set, bad_bits_as, bad_bits}
use Rattle.zero.specs.Rebuilt.{kept_of, general_field, branch_field, fields_as, rebuilt, Rebuilds}

-- ---- fields

general_in_lem : (c r : ℕ) → r < 64 → general_field (general c r) ≡ r
general_in_lem c r h = go (eqb r 0) refl
  where
    go : (b : Bool) → eqb r 0 ≡ b → pick b 0 (c * 64 + r) % 64 ≡ r
    go true e = sym (eqb-true r 0 e)
    go false e = omega arith

branch_in_lem : (c r : ℕ) → r < 8 → branch_field (branch c r) ≡ r
branch_in_lem c r h = omega arith

widen_in : (j k x : ℕ) → j + k ≡ 32 → x < 2 ^ k → widen k x % 2 ^ k ≡ x
widen_in j k x e h = rw (mod-eq_of_lt h) (go (ltb x (2 ^ (k - 1))))
  where
    words : 2 ^ 32 ≡ 2 ^ (j + k)
    words = ap (λ (n : ℕ). 2 ^ n) (sym e)

    ones : (x + (2 ^ 32 - 2 ^ k)) % 2 ^ k ≡ x
    ones = rw (words, high_ones j k, add-mul-mod_self_right x (2 ^ j - 1) (2 ^ k)) (mod-eq_of_lt h)

    go : (b : Bool) → pick b x (x + (2 ^ 32 - 2 ^ k)) % 2 ^ k ≡ x
    go true = mod-eq_of_lt h
    go false = ones

-- the source of a copy
source_in : (c r : ℕ) → r < 64 → pick (eqb (general c r) 0) c (general c r / 64) ≡ c
source_in c r h = go (eqb r 0) refl
  where
    some : (b : Bool) → eqb (c * 64 + r) 0 ≡ b → (r ≡ 0 → ⊥) → pick b c ((c * 64 + r) / 64) ≡ c
    some true e k = absurd (k (omega (arith, eqb-true (c * 64 + r) 0 e)))
    some false e k = omega arith

    go : (b : Bool) → eqb r 0 ≡ b → pick (eqb (pick b 0 (c * 64 + r)) 0) c (pick b 0 (c * 64 + r) / 64) ≡ c
    go true e = refl
    go false e = some _ refl (eqb-false r 0 e)

-- ---- what a test for bits not named says, and what it takes: rules for `omega`

none : (x : ℕ) → set x ≡ false → x ≡ 0
none x h = eqb-true x 0 (not-false (eqb x 0) h)

clear : (x : ℕ) → x ≡ 0 → set x ≡ false
clear x e = rw e

neither : (x y : ℕ) → (set x || set y) ≡ false → x + y ≡ 0
neither x y h = let (k, l) = or_false (set x) (set y) h in rw (none x k, none y l)

both_clear : (x y : ℕ) → x + y ≡ 0 → (set x || set y) ≡ false
both_clear x y e = rw (clear x (omega arith), clear y (omega arith))

none_before : (x : ℕ) → (set x || false) ≡ false → x ≡ 0
none_before x h = none x (or_false (set x) false h).0

clear_before : (x : ℕ) → x ≡ 0 → (set x || false) ≡ false
clear_before x e = rw e

few_and_none : (n x : ℕ) → (ltb 3 n || set x) ≡ false → n / 4 + x ≡ 0
few_and_none n x h = let (k, l) = or_false (ltb 3 n) (set x) h in omega (arith, ltb-false 3 n k, none x l)

few_and_clear : (n x : ℕ) → n / 4 + x ≡ 0 → (ltb 3 n || set x) ≡ false
few_and_clear n x e = rw (le-ltb 3 n (omega arith), clear x (omega arith))

ruleset tests = (none, clear, neither, both_clear, none_before, clear_before, few_and_none, few_and_clear)

one : (x : ℕ) → x < 2 → eqb x 0 ≡ false → x ≡ 1
one x h e = omega (arith, eqb-false x 0 e)

-- ---- a syllable is the sum of its fields

-- the low k bits, shut so that `omega` adds them up and does not take them apart
low : ℕ → ℕ → ℕ
low k s = s % 2 ^ k

module _ (s : ℕ) where
  -- j bits from k up
  below : (j k : ℕ) → s / 2 ^ k % 2 ^ j < 2 ^ j
  below j k = mod-lt (s / 2 ^ k) (pow_pos j)

  plain : (j k : ℕ) → low (j + k) s ≡ s / 2 ^ k % 2 ^ j * 2 ^ k + low k s
  unfolding low
  plain = mod-pow-add s

  general_at_lem : (c k : ℕ) → low (6 + k) s ≡ general_field (general c (s / 2 ^ k % 2 ^ 6)) * 2 ^ k + low k s
  general_at_lem c k = rw (general_in_lem c (s / 2 ^ k % 2 ^ 6) (below 6 k)) (plain 6 k)

  branch_at : (c k : ℕ) → low (3 + k) s ≡ branch_field (branch c (s / 2 ^ k % 2 ^ 3)) * 2 ^ k + low k s
  branch_at c k = rw (branch_in_lem c (s / 2 ^ k % 2 ^ 3) (below 3 k)) (plain 3 k)

  -- at the low end
  all_low : low 0 s ≡ 0
  unfolding low
  all_low = mod-one s

  widen_at : (j k : ℕ) → j + k ≡ 32 → low k s ≡ widen k (s / 2 ^ 0 % 2 ^ k) % 2 ^ k
  unfolding low
  widen_at j k e = rw (widen_in j k (s / 2 ^ 0 % 2 ^ k) e (below k 0), div-one s)

  -- bits 11..0 as a number, and as a register
  number_at_lem : eqb (bits 11 11 s) 0 ≡ false → low 12 s ≡ 2 ^ 11 + widen 11 (bits 10 0 s) % 2 ^ 11
  number_at_lem h = omega (arith, rw (one (bits 11 11 s) (below 1 11) h) at (plain 1 11), widen_at 21 11 refl)

  register_at : (c : ℕ) → eqb (bits 11 11 s) 0 ≡ true → low 12 s ≡ bits 10 6 s * 2 ^ 6 + general_field (general c (bits 5 0 s))
  register_at c h = omega (arith, rw (eqb-true (bits 11 11 s) 0 h) at (plain 1 11), plain 5 6, general_at_lem c 0, all_low)

  module _ (c : ℕ) where
    -- bits 23..0 are rebuilt exactly if the form's test fails
    abbrev Row : Format → Type 0
    Row f = (bad_bits_as f s ≡ false) ↔ (fields_as (kept_of s) (decode_as c s f) f ≡ low 24 s)

    -- a stop, a call, a return, and the others
    still : (stop call return : Bool) → eqb (bits 23 18 s) 1 ≡ stop → eqb (bits 23 18 s) 2 ≡ call → eqb (bits 23 18 s) 3 ≡ return → Row Still
    still true call return h i j =
        let n = eqb-true (bits 23 18 s) 1 h in
        rw n (omega (arith, tests, rw n at (plain 6 18), plain 18 0, all_low))
    still false true return h i j =
        let n = eqb-true (bits 23 18 s) 2 i in
        rw n (λ k. omega (arith, rw n at (plain 6 18), plain 18 0, all_low), λ k. refl)
    still false false true h i j =
        let n = eqb-true (bits 23 18 s) 3 j in
        rw n (omega (arith, tests, rw n at (plain 6 18), plain 18 0, all_low))
    still false false false h i j =
        rw (h, i, j) (omega (arith, tests, eqb-false (bits 23 18 s) 1 h, eqb-false (bits 23 18 s) 2 i, eqb-false (bits 23 18 s) 3 j, plain 6 18, plain 18 0, all_low))

    two : (b : Bool) → eqb (bits 11 11 s) 0 ≡ b → Row Two
    two true h = rw h (omega (arith, tests, general_at_lem c 18, general_at_lem c 12, register_at c h))
    two false h = rw h (λ k. omega (arith, general_at_lem c 18, general_at_lem c 12, number_at_lem h), λ k. refl)

    test : (b : Bool) → eqb (bits 11 11 s) 0 ≡ b → Row Test
    test true h = rw h (omega (arith, tests, plain 3 21, branch_at c 18, general_at_lem c 12, register_at c h))
    test false h = rw h (omega (arith, tests, plain 3 21, branch_at c 18, general_at_lem c 12, number_at_lem h))

    row : (f : Format) → Row f
    row Still = still _ _ _ refl refl refl
    row Two = two _ refl
    row One = omega (arith, tests, general_at_lem c 18, general_at_lem c 12, plain 12 0, all_low)
    row Carry = (λ h. omega (arith, general_at_lem c 18, general_at_lem c 12, branch_at c 9, branch_at c 6, general_at_lem c 0, all_low), λ h. refl)
    row Test = test _ refl
    row Select = omega (arith, tests, general_at_lem c 18, general_at_lem c 12, branch_at c 9, plain 3 6, general_at_lem c 0, all_low)
    row Load = (λ h. omega (arith, general_at_lem c 18, general_at_lem c 12, widen_at 20 12 refl), λ h. refl)
    row Store = (λ h. omega (arith, general_at_lem c 18, general_at_lem c 12, widen_at 20 12 refl), λ h. refl)
    row Copy =
        let source = source_in (bits 1 0 s) (bits 17 12 s) (below 6 12) in
        omega (arith, tests, general_at_lem c 18, general_at_lem (bits 1 0 s) 12, plain 10 2, source, plain 2 0, all_low)
    row Jump = (λ h. omega (arith, plain 24 0, all_low), λ h. refl)
    row Fork = (λ h. omega (arith, branch_at c 21, plain 21 0, all_low), λ h. refl)

  -- the bits above
  all : s < 2 ^ 32 → low 32 s ≡ s
  unfolding low
  all h = mod-eq_of_lt h

  split : s < 2 ^ 32 → s ≡ bits 31 31 s * 2 ^ 31 + bits 30 30 s * 2 ^ 30 + opcode s * 2 ^ 24 + low 24 s
  split h = omega (arith, all h, plain 1 31, plain 1 30, plain 6 24)

pub rebuilds : (c s : ℕ) → Rebuilds c s
unfolding bad_bits decode rebuilt
rebuilds c s k h =
    let r = row s c (format_of (opcode s)) in
    rw (decoded c s k).code (λ b. omega (arith, split s h, r.0 b), λ e. r.1 (omega (arith, split s h)))
