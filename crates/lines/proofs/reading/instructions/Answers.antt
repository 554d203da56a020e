use mathlib.Core.Path.{◌≡◌}
use Prim.Native.Nat.{◌-◌}
use native.Mathlib.Omega.{arith}
use lib.ListN.{length, length-drop}
use Rattle.std.specs.Prelude.{Some}
use Rattle.lines.specs.Items.{syllable_at}
use Rattle.lines.specs.declared.items.Item.TheVariants.{Inner, Last}
use Rattle.lines.proofs.Programs.{left_inner, left_last}
use Rattle.lines.proofs.reading.instructions.Goals as goal

pub loop-rest-preserved-in-Inner : goal.loop-rest-preserved-in-Inner
loop-rest-preserved-in-Inner c =
    let e : syllable_at c.loop-rest.rest.now ≡ Some (Inner c.in-Inner.w) = cc c.in-Some.ensures.is in
    let d = c.in-Some.ensures.behind in
    let l : length c.in-Some.behind.now ≡ length c.loop-rest.rest.now - 9 = rw d.0 (length-drop 9 c.loop-rest.rest.now) in
    (c.loop-rest.invariant.0, omega arith, omega arith, left_inner c.loop-rest.invariant.3 (omega arith) c.push_word.ensures.is d.0 e)

pub loop-rest-preserved : goal.loop-rest-preserved
loop-rest-preserved c =
    let e : syllable_at c.loop-rest.rest.now ≡ Some (Last c.in-Last.w) = cc c.in-Some.ensures.is in
    let d = c.in-Some.ensures.behind in
    let l : length c.in-Some.behind.now ≡ length c.loop-rest.rest.now - 9 = rw d.0 (length-drop 9 c.loop-rest.rest.now) in
    (c.loop-rest.invariant.0, omega arith, omega arith, left_last c.loop-rest.invariant.3 (omega arith) c.push_word-in-Last.ensures.is d.0 e)
