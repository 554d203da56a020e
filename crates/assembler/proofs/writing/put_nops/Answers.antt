use mathlib.Core.Path.{◌≡◌, ap, ◌∙◌}
use mathlib.Core.List.{[], ◌∷◌}
use Prim.Native.Nat.{◌+◌, ◌*◌}
use native.Mathlib.Omega.{arith}
use lib.ListN.{length}
use Rattle.word.specs.Bytes.{put_word}
use Rattle.assembler.specs.Program.{opens, nops}
use Rattle.assembler.proofs.Counts.{nops_length}
use Rattle.assembler.proofs.Putting.{put_more, nops_more}
use Rattle.assembler.proofs.writing.put_nops.Goals as goal

pub loop-i-preserved : goal.loop-i-preserved
loop-i-preserved c =
    let e : c.args.out + c.loop-i.i ≡ c.args.out + length (nops c.loop-i.i) = omega (arith, nops_length c.loop-i.i) in
    c.put_word.ensures ∙ ap (put_word ((c.args.out + c.loop-i.i) * 4) opens) c.loop-i.invariant
    ∙ rw (← nops_more c.loop-i.i) (put_more c.args.program.now c.args.out (nops c.loop-i.i) (opens ∷ []) e)
