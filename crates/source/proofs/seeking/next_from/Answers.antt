use mathlib.Core.Path.{sym, ap, ◌∙◌}
use mathlib.Core.List.{List, map}
use Prim.Native.Nat.{ℕ}
use Rattle.source.specs.Labels.{next}
use Rattle.source.specs.Reader.{hear}
use Rattle.source.specs.Seek.{walk_of, hear_from}
use Rattle.source.specs.Each.{left}
use Rattle.source.proofs.Places.{next_shut, left_here, step_here}
use Rattle.source.proofs.seeking.next_from.Goals as goal

pub returns-then-w-eq0 : goal.returns-then-w-eq0
returns-then-w-eq0 c = sym (next_shut (walk_of c.args.w) (hear_from c.args.text.now c.args.from) c.if-w-eq0.true)

pub returns-then-v-eq0 : goal.returns-then-v-eq0
returns-then-v-eq0 c =
    let i = c.loop-l.invariant in
    let g = c.in-Some.ensures.steps in
    let e = step_here g c.step-v.result c.loop-l.v c.step-v.ensures.0 in
    let shut = next_shut (walk_of c.step-v.result) (map hear (left c.next.new.self)) c.if-v-eq0.true in
    sym (i.3 ∙ (ap (λ (ls : List (List ℕ)). next (walk_of c.loop-l.v) (map hear ls)) (left_here g) ∙ rw (i.2, ← e) shut))
