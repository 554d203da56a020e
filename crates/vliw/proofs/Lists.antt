-- Laws of lists that know no machine.
use mathlib.Core.Path.{◌≡◌, refl, ◌∙◌, ap, sym}
use mathlib.Core.List.{List, [], ◌∷◌, map, Memᴰ, Permᴰ}
use Prim.Native.Nat.{ℕ, zero, suc}
use lib.ListN.{get_or, set}

module _ {A : Type 0} where
  -- what each index has, and the one that is set is given, each index has after
  pub set_each : (P : ℕ → A → Type 0) (l : List A) (i : ℕ) (x d : A) → P i x → ((r : ℕ) → P r (get_or l r d)) → (r : ℕ) → P r (get_or (set l i x) r d)
  set_each P [] i x d p h r = h r
  set_each P (y ∷ l) zero x d p h zero = p
  set_each P (y ∷ l) zero x d p h (suc r) = h (suc r)
  set_each P (y ∷ l) (suc i) x d p h zero = h zero
  set_each P (y ∷ l) (suc i) x d p h (suc r) = set_each (λ k. P (suc k)) l i x d p (λ k. h (suc k)) r

  -- a place in one order of a list is a place in another: `List·Permᴰ·mem` forgets which
  pub perm_mem : {x : A} {us ws : List A} → Permᴰ us ws → Memᴰ x ws → Memᴰ x us
  perm_mem Permᴰ.nil m = m
  perm_mem (Permᴰ.cons e d) (Memᴰ.head p) = Memᴰ.head (p ∙ sym e)
  perm_mem (Permᴰ.cons e d) (Memᴰ.tail m) = Memᴰ.tail (perm_mem d m)
  perm_mem (Permᴰ.swap p q) (Memᴰ.head e) = Memᴰ.tail (Memᴰ.head (e ∙ sym q))
  perm_mem (Permᴰ.swap p q) (Memᴰ.tail (Memᴰ.head e)) = Memᴰ.head (e ∙ sym p)
  perm_mem (Permᴰ.swap p q) (Memᴰ.tail (Memᴰ.tail m)) = Memᴰ.tail (Memᴰ.tail m)
  perm_mem (Permᴰ.trans d e) m = perm_mem d (perm_mem e m)

module _ {A B : Type 0} (f : A → B) where
  pub map_set : (l : List A) (i : ℕ) (x : A) → map f (set l i x) ≡ set (map f l) i (f x)
  map_set [] i x = refl
  map_set (y ∷ l) zero x = refl
  map_set (y ∷ l) (suc i) x = ap (◌∷◌ (f y)) (map_set l i x)

  -- a change that f does not see
  pub map_unseen : (g : A → A) → ((x : A) → f (g x) ≡ f x) → (l : List A) → map f (map g l) ≡ map f l
  map_unseen g h [] = refl
  map_unseen g h (x ∷ l) = λ i. h x i ∷ map_unseen g h l i
