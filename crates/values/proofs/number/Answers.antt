use mathlib.Core.Path.{sym, ◌∙◌}
use Prim.Native.Nat.{◌*◌, ◌+◌, ◌-◌}
use native.Mathlib.Nat.{le_trans}
use native.Mathlib.Omega.{arith}
use lib.ListN.{get_or, drop}
use Rattle.values.specs.Values.{decimal_from}
use Rattle.values.proofs.Range.{within_high}
use Rattle.values.proofs.Decimals.{decimal_more, decimal_grows}
use Rattle.values.proofs.number.Goals as goal

pub returns-then-v-ge2147483648 : goal.returns-then-v-ge2147483648
returns-then-v-ge2147483648 c =
    let w = c.args.w.now in
    let i = c.loop-d.d-index in
    let v = c.loop-d.v * 10 + (get_or w i 0 - 48) in
    let e = c.loop-d.invariant.1 ∙ decimal_more c.loop-d.v i w (omega arith) in
    let g = decimal_grows v (drop (i + 1) w) in
    sym (within_high (decimal_from 0 w) 0 (rw e (le_trans c.if-v-ge2147483648.true g)))
