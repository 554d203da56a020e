-- Backwards: the instruction from the loop's place ends with the program.
use mathlib.Core.Path.{◌≡◌, ◌∙◌}
use mathlib.Core.List.{List}
use Prim.Native.Nat.{ℕ, suc, ◌-◌}
use native.Mathlib.Omega.{arith}
use lib.ListN.{length}
use Rattle.word.specs.Bytes.{words}
use Rattle.word.proofs.Bytes.{words_length}
use Rattle.isa.specs.Program.{following}
use Rattle.isa.proofs.Instructions.{start_zero, start_after, following_after, following_within, following_on}
use Rattle.refusals.proofs.Last.{last_is}
use Rattle.refusals.proofs.control.last_start.Goals as goal

ended : (p : List ℕ) (i : ℕ) → suc i ≡ length p → following p i ≡ length p
ended p i e = omega (arith, following_after p i (omega arith), following_within p i (omega arith))

pub loop-i-init : goal.loop-i-init
loop-i-init c =
    let n = words_length c.args.program.now in
    (omega (arith, n, c.requires), omega (arith, n), ended (words c.args.program.now) _ (omega (arith, n, c.requires)))

pub returns-then-ends : goal.returns-then-ends
returns-then-ends c =
    let p = words c.args.program.now in
    last_is p (c.loop-i.i - 1)
    (start_after p (c.loop-i.i - 1) (omega arith) (omega (arith, c.loop-i.invariant.1)) ∙ rw (← c.syllable.ensures, ← c.ends.ensures) c.if-ends.true)
    c.loop-i.invariant.2

pub loop-i-preserved : goal.loop-i-preserved
loop-i-preserved c =
    let p = words c.args.program.now in
    let e : suc (c.loop-i.i - 1 - 1) ≡ c.loop-i.i - 1 = omega arith in
    (omega arith, omega (arith, c.loop-i.invariant.1), following_on p (c.loop-i.i - 1 - 1) (omega (arith, c.loop-i.invariant.1)) (rw (← c.syllable.ensures, ← c.ends.ensures) c.if-ends.false) ∙ rw e c.loop-i.invariant.2)

pub returns : goal.returns
returns c =
    let p = words c.args.program.now in
    let z : c.loop-i.i - 1 ≡ 0 = omega (arith, c.loop-i.invariant.0) in
    last_is p 0 (start_zero p c.requires) (rw z at c.loop-i.invariant.2)
