use mathlib.Core.Path.{ap, ◌∙◌}
use Prim.Native.Nat.{◌+◌}
use native.Mathlib.Omega.{arith}
use lib.Dec.{ltb}
use Rattle.word.specs.Choice.{pick}
use Rattle.source.specs.Seek.{walk_of}
use Rattle.assembler.specs.Program.{opens, bits_of}
use Rattle.assembler.proofs.Putting.{fills_size, fills_put}
use Rattle.assembler.proofs.writing.put_operation.Goals as goal

pub put_nops-requires : goal.put_nops-requires
put_nops-requires c =
    let r = rw c.in-Some.is at c.requires.room in
    omega (arith, fills_size c.args.line.now c.in-Some.o (walk_of c.args.w) c.args.p.last, r.0, c.put_kept-out.ensures.1, c.saturating_sub-idle.ensures)

pub returns : goal.returns
returns c =
    let o = c.in-Some.o in
    let w = walk_of c.args.w in
    let b = c.bits_of-bits.ensures.0 ∙ ap bits_of c.syllable.ensures.0 in
    rw c.in-Some.is (
      c.put_nops.ensures ∙ rw (c.saturating_sub-idle.ensures, c.put_kept-out.ensures.0) (fills_put c.args.line.now o w c.args.p.last c.args.program.now c.args.p.out c.put_kept-out.ensures.1),
      omega (arith, fills_size c.args.line.now o w c.args.p.last, c.put_kept-out.ensures.1, c.saturating_sub-idle.ensures),
      c.opening.ensures.0 ∙ ap (λ x. x + pick (ltb o.cluster c.args.w.opened) 0 opens) b,
      c.opening.ensures.1,
    )
