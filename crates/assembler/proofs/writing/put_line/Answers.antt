use mathlib.Core.Path.{sym, ◌∙◌}
use native.Mathlib.Omega.{arith}
use Rattle.source.specs.Seek.{walk_of}
use Rattle.evaluation.specs.Evaluated.{labels_of}
use Rattle.assembler.proofs.Putting.{lastly_keeps, adds_size, adds_put}
use Rattle.assembler.proofs.writing.put_line.Goals as goal

pub returns : goal.returns
returns c =
    let line = c.args.l.now.bytes.now in
    let l = c.args.l.now.line in
    let env = labels_of c.args.labels.now.text.now in
    let w = walk_of c.args.w in
    let r = sym (c.is_refused.ensures line) ∙ c.if-is_refused.false in
    let q = c.put_operation-q.ensures in
    let s = adds_size line l w c.args.p.last env c.in-Some.is r q.2 in (
      c.put_end-out.ensures.0 ∙ rw q.0 (adds_put line l w c.args.p.last env c.in-Some.is r q.2 c.args.program.now c.args.p.out q.1),
      omega (arith, s, c.put_end-out.ensures.1, q.1),
      q.2 ∙ sym (lastly_keeps line l w c.args.p.last env c.in-Some.is r),
      q.3,
    )
