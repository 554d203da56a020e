use mathlib.Core.Path.{◌≡◌, ◌∙◌}
use native.Mathlib.Omega.{arith}
use Rattle.std.proofs.Common.{rules}
use Rattle.std.specs.Prelude.{Some}
use Rattle.source.proofs.Places.{few_next}
use Rattle.assembler.proofs.Putting.{rest_all, rest_on}
use Rattle.assembler.proofs.writing.write.Goals as goal

pub loop-l-init : goal.loop-l-init
loop-l-init c =
    let t : c.into_iter-l-iterator.result.text.now ≡ c.args.labels.now.text.now = search rules in
    let n : c.into_iter-l-iterator.result.next ≡ Some 0 = search rules in
    (t, rw n (omega arith), omega arith, rw (n, t) (rest_all c.args.labels.now.text.now c.args.program.now c.requires))

pub loop-l-preserved : goal.loop-l-preserved
loop-l-preserved c =
    let i = c.loop-l.invariant in
    let g = c.in-Some.ensures.steps in
    let p = c.put_line-p.ensures in
    (g.text ∙ i.0, few_next g i.1 c.step-w.ensures.2 c.step-w.ensures.3, p.3, rest_on g i.3 p.0 (c.step-w.ensures.0 c.in-Some.l.bytes.now) p.1 p.2)
