use mathlib.Core.Path.{ap, ◌∙◌}
use Prim.Native.Nat.{ℕ}
use Rattle.values.specs.Values.{within}
use Rattle.values.proofs.Products.{product_up_up, product_up_down, product_down_up, product_down_down}
use Rattle.values.proofs.product.Goals as goal

pub returns-then-y-ge2147483648 : goal.returns-then-y-ge2147483648
returns-then-y-ge2147483648 c = c.fit.ensures ∙ (ap (λ (n : ℕ). within n 0) c.multiplied.ensures.0 ∙ product_up_up _ _ c.if-x-ge2147483648.true c.if-y-ge2147483648.true)

pub returns-then-x-ge2147483648 : goal.returns-then-x-ge2147483648
returns-then-x-ge2147483648 c = c.fit-then-x-ge2147483648.ensures ∙ (ap (within 0) c.multiplied-then-x-ge2147483648.ensures.0 ∙ product_up_down _ _ c.if-x-ge2147483648.true c.if-y-ge2147483648.false)

pub returns-then-y-ge2147483648-2 : goal.returns-then-y-ge2147483648-2
returns-then-y-ge2147483648-2 c = c.fit-then-y-ge2147483648-2.ensures ∙ (ap (within 0) c.multiplied-then-y-ge2147483648-2.ensures.0 ∙ product_down_up _ _ c.if-x-ge2147483648.false c.if-y-ge2147483648-2.true)

pub returns : goal.returns
returns c = c.fit-2.ensures ∙ (ap (λ (n : ℕ). within n 0) c.multiplied-2.ensures.0 ∙ product_down_down _ _ c.if-x-ge2147483648.false c.if-y-ge2147483648-2.false)
