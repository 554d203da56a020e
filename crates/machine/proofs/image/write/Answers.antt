-- The place, the registers and the link fill the image.
use native.Mathlib.Omega.{arith}
use Rattle.machine.specs.State.{registers_of}
use Rattle.machine.proofs.Arrays.{registers_of_length}
use Rattle.machine.proofs.Images.{put_next, put_all}
use Rattle.machine.proofs.image.write.Goals as goal

pub loop-r-preserved : goal.loop-r-preserved
loop-r-preserved c =
    let l = registers_of c.args.s.now in
    let n = registers_of_length c.requires.sized in
    (omega arith, put_next l _ c.loop-r.r (omega (arith, n)) c.loop-r.invariant.1 c.register.ensures c.put_register.ensures)

pub returns : goal.returns
returns c =
    let l = registers_of c.args.s.now in
    let n = registers_of_length c.requires.sized in
    put_all l c.args.image.now c.loop-r.r c.args.s.now.place.0 c.args.s.now.link.0 n (omega arith) c.requires.image_len c.loop-r.invariant.1 (rw c.offset.ensures at c.put_word-2.ensures)
