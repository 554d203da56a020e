-- A letter that names no other item is a mark.
use mathlib.Core.Path.{◌≡◌}
use Prim.Native.Nat.{ℕ}
use borrow.Author.Tests.{ne_eqb}
use Rattle.operations.specs.Table.{mark, item_of}

module _ (k : ℕ) where
  pub other_mark : (k ≡ 116 → ⊥) → (k ≡ 49 → ⊥) → (k ≡ 50 → ⊥) → (k ≡ 98 → ⊥) → (k ≡ 99 → ⊥) → (k ≡ 100 → ⊥) → (k ≡ 101 → ⊥) → (k ≡ 120 → ⊥) → (k ≡ 115 → ⊥) → (k ≡ 108 → ⊥)
      → (k ≡ 111 → ⊥) → (k ≡ 103 → ⊥) → (k ≡ 106 → ⊥) → (k ≡ 107 → ⊥) → item_of k ≡ mark k
  other_mark t s1 s2 b c d e x s l o g j a =
      rw (
        ne_eqb k 116 t,
        ne_eqb k 49 s1,
        ne_eqb k 50 s2,
        ne_eqb k 98 b,
        ne_eqb k 99 c,
        ne_eqb k 100 d,
        ne_eqb k 101 e,
        ne_eqb k 120 x,
        ne_eqb k 115 s,
        ne_eqb k 108 l,
        ne_eqb k 111 o,
        ne_eqb k 103 g,
        ne_eqb k 106 j,
        ne_eqb k 107 a,
      )
