-- Laws of products: by the signs of the two, and how large.
use mathlib.Core.Path.{◌≡◌, sym, ap, ap₂, ◌∙◌}
use Prim.Native.Nat.{ℕ, ◌+◌, ◌*◌, ◌-◌, ◌≤◌, ◌<◌}
use native.Mathlib.Nat.{mul_comm, mul-add, add-mul, add_comm}
use native.Mathlib.Omega.{arith}
use Rattle.values.specs.Values.{half, within}
use Rattle.values.proofs.Range.{within_same}

up_up : (x y : ℕ) → (half + x) * (half + y) + half * half + 0 ≡ x * y + ((half + x) * half + half * (half + y))
up_up x y = omega arith

up_down : (x y b : ℕ) → b + y ≡ half → x * b + x * y ≡ x * half → (half + x) * b + half * half + x * y ≡ 0 + ((half + x) * half + half * b)
up_down x y b e f = omega arith

spread : (x y b : ℕ) → b + y ≡ half → x * b + x * y ≡ x * half
spread x y b e = sym (mul-add x b y) ∙ ap (λ (n : ℕ). x * n) e

down_down : (x y a b : ℕ) → a + x ≡ half → b + y ≡ half → a * b + half * half + 0 ≡ x * y + (a * half + half * b)
down_down x y a b e f =
    let p = spread x y b f in
    let q = spread a y b f in
    let r : x * y + a * y ≡ half * y = sym (add-mul x a y) ∙ ap (λ (n : ℕ). n * y) (add_comm x a ∙ e) in
    omega arith

pub product_up_up : (a b : ℕ) → half ≤ a → half ≤ b → within ((a - half) * (b - half)) 0 ≡ within (a * b + half * half) (a * half + half * b)
product_up_up a b h k = go a b (a - half) (b - half) (omega arith) (omega arith)
  where
    go : (a b x y : ℕ) → a ≡ half + x → b ≡ half + y → within (x * y) 0 ≡ within (a * b + half * half) (a * half + half * b)
    go a b x y e f = rw (e, f) (sym (within_same _ _ (x * y) 0 (up_up x y)))

pub product_up_down : (a b : ℕ) → half ≤ a → b < half → within 0 ((a - half) * (half - b)) ≡ within (a * b + half * half) (a * half + half * b)
product_up_down a b h k = go a (a - half) (half - b) (omega arith) (omega arith)
  where
    go : (a x y : ℕ) → a ≡ half + x → b + y ≡ half → within 0 (x * y) ≡ within (a * b + half * half) (a * half + half * b)
    go a x y e f = rw e (sym (within_same _ _ 0 (x * y) (up_down x y b f (spread x y b f))))

pub product_down_up : (a b : ℕ) → a < half → half ≤ b → within 0 ((half - a) * (b - half)) ≡ within (a * b + half * half) (a * half + half * b)
product_down_up a b h k =
    let e : (half - a) * (b - half) ≡ (b - half) * (half - a) = mul_comm (half - a) (b - half) in
    let f : b * a + half * half ≡ a * b + half * half = ap (λ (n : ℕ). n + half * half) (mul_comm b a) in
    let g : b * half + half * a ≡ a * half + half * b = omega arith in
    ap (within 0) e ∙ (product_up_down b a k h ∙ ap₂ within f g)

pub product_down_down : (a b : ℕ) → a < half → b < half → within ((half - a) * (half - b)) 0 ≡ within (a * b + half * half) (a * half + half * b)
product_down_down a b h k = go (half - a) (half - b) (omega arith) (omega arith)
  where
    go : (x y : ℕ) → a + x ≡ half → b + y ≡ half → within (x * y) 0 ≡ within (a * b + half * half) (a * half + half * b)
    go x y e f = sym (within_same _ _ (x * y) 0 (down_down x y a b e f))
