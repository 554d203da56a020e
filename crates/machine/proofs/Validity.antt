-- Laws of validity: of two banks, and what each register of a valid state has.
use mathlib.Core.Path.{◌≡◌, refl, ap}
use mathlib.Core.Bool.{Bool, true, false, not, ◌||◌, ◌&&◌}
use Prim.Native.Nat.{ℕ, ◌+◌, ◌%◌, ◌≤◌, ◌<◌}
use native.Mathlib.Numerals.{add-one}
use lib.Dec.{eqb, ltb, leb}
use borrow.Author.Tests.{lt-ltb, le-ltb, le-leb, eq-eqb, ltb-true, ltb-false, leb-true, eqb-true, not-true, not-false}
use Rattle.word.specs.Lists.{any_below}
use Rattle.word.proofs.Choice.{is_false, never_both, or_false, and_true}
use Rattle.word.proofs.Lists.{any_below_false, any_below_none}
use Rattle.vliw.specs.Cell.{Cell, Registers, still, at}
use Rattle.machine.specs.Valid.{is_zero_register, all_zero, bad_register}

-- ---- all registers, one by one

pub any_more : (f : ℕ → Bool) (n : ℕ) {a b : Bool} → a ≡ f n → b ≡ any_below f n → a || b ≡ any_below f (n + 1)
any_more f n e h = rw (e, h, add-one n) refl

pub any_done : (f : ℕ → Bool) (n m : ℕ) {b : Bool} → n ≡ m → b ≡ any_below f n → b ≡ any_below f m
any_done f n m e h = rw e at h

-- ---- one register

-- what register r has in a valid state
pub record ValidCell (r : ℕ) (c : Cell) : Type 0 where
  pub zero_register : r < 256 → r % 64 ≡ 0 → c ≡ still
  pub landing : c.landing ≤ c.busy
  pub busy : c.busy ≤ 7
  pub waiting : c.landing ≡ 0 → c.waiting ≡ 0
  pub branch : 256 ≤ r → (c.value ≤ 1) × (c.waiting ≤ 1)

module _ (r : ℕ) (c : Cell) where
  all_zero_lem : all_zero c ≡ true → c ≡ still
  all_zero_lem h =
      let v : Bool = eqb c.value 0 in
      let w : Bool = eqb c.waiting 0 in
      let b : Bool = eqb c.busy 0 in
      let e₃ = and_true (v && w && b) (eqb c.landing 0) h in
      let e₂ = and_true (v && w) b e₃.0 in
      let e₁ = and_true v w e₂.0 in
      λ k.
      record {
        value = eqb-true c.value 0 e₁.0 k;
        waiting = eqb-true c.waiting 0 e₁.1 k;
        busy = eqb-true c.busy 0 e₂.1 k;
        landing = eqb-true c.landing 0 e₃.1 k;
      }

  -- the tests of `badRegister`, in its order
  abbrev zero_breaks : Bool
  zero_breaks = is_zero_register r && not (all_zero c)

  abbrev landing_breaks : Bool
  landing_breaks = ltb c.busy c.landing

  abbrev busy_breaks : Bool
  busy_breaks = ltb 7 c.busy

  abbrev waiting_breaks : Bool
  waiting_breaks = eqb c.landing 0 && not (eqb c.waiting 0)

  abbrev branch_breaks : Bool
  branch_breaks = leb 256 r && (ltb 1 c.value || ltb 1 c.waiting)

  cell_valid : bad_register r c ≡ false → ValidCell r c
  cell_valid h =
      let e₄ = or_false (zero_breaks || landing_breaks || busy_breaks || waiting_breaks) branch_breaks h in
      let e₃ = or_false (zero_breaks || landing_breaks || busy_breaks) waiting_breaks e₄.0 in
      let e₂ = or_false (zero_breaks || landing_breaks) busy_breaks e₃.0 in
      let e₁ = or_false zero_breaks landing_breaks e₂.0 in
      record {
        zero_register = λ p q. all_zero_lem (not-false (all_zero c) (rw (lt-ltb r 256 p, eq-eqb (r % 64) 0 q) at e₁.0));
        landing = ltb-false c.busy c.landing e₁.1;
        busy = ltb-false 7 c.busy e₂.1;
        waiting = λ p. eqb-true c.waiting 0 (not-false (eqb c.waiting 0) (rw (eq-eqb c.landing 0 p) at e₃.1));
        branch = λ p.
            let e = or_false (ltb 1 c.value) (ltb 1 c.waiting) (rw (le-leb 256 r p) at e₄.1) in
            (ltb-false 1 c.value e.0, ltb-false 1 c.waiting e.1);
      }

  module _ (v : ValidCell r c) where
    zero_holds : zero_breaks ≡ false
    zero_holds =
        is_false zero_breaks
        (λ t.
        let e = and_true (is_zero_register r) (not (all_zero c)) t in
        let z = and_true (ltb r 256) (eqb (r % 64) 0) e.0 in
        let still-here = v.zero_register (ltb-true r 256 z.0) (eqb-true (r % 64) 0 z.1) in
        never_both (ap all_zero still-here) (not-true (all_zero c) e.1))

    waiting_holds : waiting_breaks ≡ false
    waiting_holds =
        is_false waiting_breaks
        (λ t.
        let e = and_true (eqb c.landing 0) (not (eqb c.waiting 0)) t in
        let none = v.waiting (eqb-true c.landing 0 e.0) in
        never_both (eq-eqb c.waiting 0 none) (not-true (eqb c.waiting 0) e.1))

    branch_holds : branch_breaks ≡ false
    branch_holds =
        is_false branch_breaks
        (λ t.
        let e = and_true (leb 256 r) (ltb 1 c.value || ltb 1 c.waiting) t in
        let b = v.branch (leb-true 256 r e.0) in
        never_both e.1 (rw (le-ltb 1 c.value b.0) (le-ltb 1 c.waiting b.1)))

    valid_cell : bad_register r c ≡ false
    valid_cell = λ k. zero_holds k || le-ltb c.busy c.landing v.landing k || le-ltb 7 c.busy v.busy k || waiting_holds k || branch_holds k

-- ---- all registers

abbrev pub AllValid : Registers → Type 0
AllValid l = (r : ℕ) → r < 288 → ValidCell r (at l r)

module _ (l : Registers) where
  pub registers_valid : any_below (λ r. bad_register r (at l r)) 288 ≡ false → AllValid l
  registers_valid h r b = cell_valid r (at l r) (any_below_false (λ r. bad_register r (at l r)) 288 h r b)

  pub valid_registers : AllValid l → any_below (λ r. bad_register r (at l r)) 288 ≡ false
  valid_registers h = any_below_none (λ r. bad_register r (at l r)) 288 (λ r b. valid_cell r (at l r) (h r b))
