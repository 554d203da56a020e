-- What is still to be put, over what was put, is the whole number.
use mathlib.Core.Path.{◌∙◌}
use native.Mathlib.Omega.{arith}
use lib.ListN.{length-set}
use Rattle.text.proofs.Puts.{digit_first}
use Rattle.text.proofs.rows.put_hex.Goals as goal

pub loop-left-preserved : goal.loop-left-preserved
loop-left-preserved c =
    (omega arith, simp length-set (omega arith), omega arith, rw c.digit_byte.ensures (digit_first c.loop-left.out c.args.at c.loop-left.left c.loop-left.high c.loop-left-test.true ∙ c.loop-left.invariant.3))
