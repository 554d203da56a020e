use mathlib.Core.Path.{sym, ap, subst, ◌∙◌}
use Prim.Native.Nat.{ℕ, ◌*◌, ◌≤◌}
use native.Mathlib.Omega.{arith}
use lib.ListN.{length}
use Rattle.std.specs.Prelude.{Option, IfSome}
use Rattle.source.specs.Seek.{walk_of}
use Rattle.assembler.specs.Passes.{number_at}
use Rattle.assembler.proofs.Judged.{judged, judged_on, judged_here, some_number}
use Rattle.assembler.proofs.judging.judge.Goals as goal

pub returns-in-Err : goal.returns-in-Err
returns-in-Err c =
    let text = c.args.labels.now.text.now in
    let i = c.loop-line.invariant in
    let s = c.in-Some.ensures.steps in
    let g = s.0 in
    let e = (rw c.in-Err.is at c.check.ensures) ∙ ap (number_at text (walk_of c.loop-line.w) c.in-Some.place) g.heard in
    let h = judged_here g text i.0 (walk_of c.loop-line.w) c.loop-line.line-iterator.count e (some_number c.in-Err.wrong) in
    let b = subst (λ (o : Option ℕ). IfSome o (λ at. (c.loop-line.w.count ≤ at * 2) × (c.loop-line.line-iterator.count ≤ at))) g.place i.1 in
    (rw s.1 (sym (i.2 ∙ h) ∙ judged text), omega (arith, b.1, g.inside, ap length i.0, s.1))

pub returns : goal.returns
returns c =
    let text = c.args.labels.now.text.now in
    let i = c.loop-line.invariant in
    (sym (i.2 ∙ ap (λ (n : Option ℕ). judged_on text (walk_of c.loop-line.w) n c.loop-line.line-iterator.count) c.in-None.ensures.steps.0) ∙ judged text, tt)
