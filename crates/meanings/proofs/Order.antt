-- Tests that tell whether something holds, and choices by a test.
use mathlib.Core.Path.{◌≡◌, refl, subst}
use mathlib.Core.Logic.{◌⊎◌, inl, inr}
use mathlib.Core.Bool.{Bool, true, false, not}
use Prim.Native.Nat.{ℕ, ◌≤◌, ◌<◌}
use native.Mathlib.Nat.{le_of_lt}
use lib.Dec.{T, eqb, ltb, leb, eqb→eq, eqb_refl, ltb→lt, lt→ltb, leb→le, le→leb}
use lib.IntN.{ℤ, pos, negsuc}
use lib.Signed.{◌≤ℤ◌, ◌<ℤ◌, lt_z, lt_z_yes, lt_z_no, le_z_yes, clash_ℤ}
use Rattle.word.specs.Choice.{pick, bit}
use Rattle.meanings.specs.Integer.{Tells}

tells : (t : Bool) {P : Type 0} → (T t → P) → (T (not t) → P → ⊥) → Tells P (bit t)
tells true f g = inl (refl, f tt)
tells false f g = inr (refl, g tt)

never : (t : Bool) → T (not t) → T t → ⊥
never true n y = n
never false n y = y

twice : (t : Bool) → T (not (not t)) → T t
twice true n = tt
twice false n = n

pub tells_eq : (x y : ℕ) → Tells (x ≡ y) (bit (eqb x y))
tells_eq x y = tells (eqb x y) (eqb→eq x y) (λ n e. never (eqb x y) n (subst (λ (k : ℕ). T (eqb x k)) e (eqb_refl x)))

pub tells_ne : (x y : ℕ) → Tells (x ≡ y → ⊥) (bit (not (eqb x y)))
tells_ne x y =
    tells (not (eqb x y))
    (λ n e. never (eqb x y) n (subst (λ (k : ℕ). T (eqb x k)) e (eqb_refl x)))
    (λ n f. f (eqb→eq x y (twice (eqb x y) n)))

pub tells_ltu : (x y : ℕ) → Tells (x < y) (bit (ltb x y))
tells_ltu x y = tells (ltb x y) (ltb→lt x y) (λ n h. never (ltb x y) n (lt→ltb x y h))

pub tells_leu : (x y : ℕ) → Tells (x ≤ y) (bit (leb x y))
tells_leu x y = tells (leb x y) (leb→le x y) (λ n h. never (leb x y) n (le→leb x y h))

-- a test t that is the order of integers
pub tells_lt : {t : Bool} (a b : ℤ) → t ≡ lt_z a b → Tells (a <ℤ b) (bit t)
tells_lt a b e = rw e (tells (lt_z a b) lt_z_yes (λ n h. never (lt_z a b) n h.lt))

pub tells_le : {t : Bool} (a b : ℤ) → t ≡ lt_z b a → Tells (a ≤ℤ b) (bit (not t))
tells_le a b e = rw e (tells (not (lt_z b a)) lt_z_no (λ n h. clash_ℤ (lt_z_yes (twice (lt_z b a) n)) h))

pub le_of_lt_z : (a b : ℤ) → T (lt_z a b) → a ≤ℤ b
le_of_lt_z (pos a) (pos b) h = le_z_yes (le→leb a b (le_of_lt (ltb→lt a b h)))
le_of_lt_z (pos a) (negsuc b) h = absurd h
le_of_lt_z (negsuc a) (pos b) h = le_z_yes tt
le_of_lt_z (negsuc a) (negsuc b) h = le_z_yes (le→leb b a (le_of_lt (ltb→lt b a h)))

-- of two numbers the one that the test picks, and the order that it goes by
module _ (order : ℕ → ℕ → Type 0) (same : (n : ℕ) → order n n) where
  pub second_if : (t : Bool) (x y : ℕ) → (T t → order x y) → (T (not t) → order y x) → (((pick t y x ≡ x) ⊎ (pick t y x ≡ y)) × order x (pick t y x) × order y (pick t y x))
  second_if true x y f g = (inr refl, f tt, same y)
  second_if false x y f g = (inl refl, same x, g tt)

  pub first_if : (t : Bool) (x y : ℕ) → (T t → order y x) → (T (not t) → order x y) → (((pick t x y ≡ x) ⊎ (pick t x y ≡ y)) × order x (pick t x y) × order y (pick t x y))
  first_if true x y f g = (inl refl, same x, f tt)
  first_if false x y f g = (inr refl, g tt, same y)
