use mathlib.Core.Path.{sym, ◌∙◌}
use mathlib.Core.List.{List}
use Prim.Native.Nat.{ℕ}
use Rattle.source.proofs.Walks.{step_says}
use Rattle.source.proofs.walking.step.Goals as goal

pub returns-then-says : goal.returns-then-says
returns-then-says c =
    let s = λ (line : List ℕ). step_says c.args.w c.args.l line c.in-Some.is (sym c.if-is_refused.false ∙ c.is_refused.ensures line) (c.operated-v.ensures.0 line) in
    (rw c.if-says.true at s, c.operated-v.ensures.1, c.operated-v.ensures.2, λ o. c.operated-v.ensures.3 (rw c.in-Some.is at o))

pub returns-else-says : goal.returns-else-says
returns-else-says c =
    let s = λ (line : List ℕ). step_says c.args.w c.args.l line c.in-Some.is (sym c.if-is_refused.false ∙ c.is_refused.ensures line) (c.operated-v.ensures.0 line) in
    (rw c.if-says.false at s, c.operated-v.ensures.1, c.operated-v.ensures.2, λ o. c.operated-v.ensures.3 (rw c.in-Some.is at o))
