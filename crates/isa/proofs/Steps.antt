-- Tests: how a choice goes by its test (`steps`), and tests on what other functions gave (`joins`).
use mathlib.Core.Path.{◌≡◌}
use mathlib.Core.Bool.{Bool, true, false, not, ◌||◌, ◌&&◌}
use Prim.Native.Nat.{ℕ, ◌≤◌, ◌<◌}
use lib.Dec.{eqb, ltb, leb}
use borrow.Author.Tests.{eq-eqb, ne_eqb, le-leb, lt-leb}
use Rattle.word.specs.Choice.{pick}

module _ {A : Type 0} (f x y : A) where
  module _ (o n : ℕ) where
    pub is : o ≡ n → f ≡ x → f ≡ pick (eqb o n) x y
    is h e = rw (eq-eqb o n h) e

    pub is_not : (o ≡ n → ⊥) → f ≡ y → f ≡ pick (eqb o n) x y
    is_not h e = rw (ne_eqb o n h) e

    pub upto : o ≤ n → f ≡ x → f ≡ pick (leb o n) x y
    upto h e = rw (le-leb o n h) e

    pub past : n < o → f ≡ y → f ≡ pick (leb o n) x y
    past h e = rw (lt-leb o n h) e

  -- a test that another function made
  module _ (b t : Bool) where
    pub taken : b ≡ t → b ≡ true → f ≡ x → f ≡ pick t x y
    taken s h e = rw (← s, h) e

    pub left : b ≡ t → b ≡ false → f ≡ y → f ≡ pick t x y
    left s h e = rw (← s, h) e

-- what holds on both ways
pub either_way : {A : Type 0} (P : A → Type 0) (b : Bool) (x y : A) → P x → P y → P (pick b x y)
either_way P true x y p q = p
either_way P false x y p q = q

pub ruleset steps = (is, is_not, upto, past, taken, left)

-- a test on what another function gave
pub same_eq : (a x n : ℕ) → a ≡ x → eqb a n ≡ eqb x n
same_eq a x n e = rw e

pub same_set : (a x : ℕ) → a ≡ x → not (eqb a 0) ≡ not (eqb x 0)
same_set a x e = rw e

pub same_lt : (a b x y : ℕ) → a ≡ x → b ≡ y → ltb a b ≡ ltb x y
same_lt a b x y e h = rw (e, h)

-- two tests joined
module _ (r a b x y : Bool) where
  pub same_or : r ≡ (a || b) → a ≡ x → b ≡ y → r ≡ (x || y)
  same_or s e h = rw (← e, ← h) s

  pub same_and : r ≡ (a && b) → a ≡ x → b ≡ y → r ≡ (x && y)
  same_and s e h = rw (← e, ← h) s

pub ruleset joins = (same_eq, same_set, same_lt, same_or, same_and)
