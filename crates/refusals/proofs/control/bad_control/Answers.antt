-- A search that carries on the spot before the next syllable.
use mathlib.Core.Path.{◌≡◌, sym, ◌∙◌}
use Prim.Native.Nat.{◌<◌}
use native.Mathlib.Numerals.{add-one}
use native.Mathlib.Omega.{arith}
use lib.ListN.{length}
use borrow.Author.Count.{below_more}
use Rattle.word.specs.Bytes.{words}
use Rattle.word.proofs.Bytes.{words_length}
use Rattle.isa.specs.Program.{spot_at}
use Rattle.isa.proofs.Instructions.{spot_walk, walk_opened}
use Rattle.refusals.specs.Broken.{bad_control_at}
use Rattle.refusals.proofs.Walks.{found_here, found_none}
use Rattle.refusals.proofs.control.bad_control.Goals as goal
use Rattle.refusals.proofs.control.bad_control.Goals.{After-next_spot-x, In-loop-i}

inside : (c : In-loop-i) → c.loop-i.i < length (words c.args.program.now)
inside c = omega (arith, words_length c.args.program.now)

pub next_spot-x-requires : goal.next_spot-x-requires
next_spot-x-requires c =
    let p = words c.args.program.now in
    rw c.loop-i.invariant.1 (omega (arith, walk_opened p c.loop-i.i c.loop-i.invariant.0, words_length c.args.program.now))

-- the turn's spot as it stands in the program
spot : (c : After-next_spot-x)
    → c.next_spot-x.result ≡ spot_at (words c.args.program.now) c.loop-i.i
spot c =
    let p = words c.args.program.now in
    rw (c.next_spot-x.ensures, c.syllable.ensures, c.loop-i.invariant.1) (spot_walk p c.loop-i.i ((omega (arith, words_length c.args.program.now))))

pub returns-then-is_bad_control : goal.returns-then-is_bad_control
returns-then-is_bad_control c =
    found_here c.args.program.now (bad_control_at (words c.args.program.now)) c.loop-i.i c.loop-i.invariant.2 c.loop-i-test.true (sym c.is_bad_control.ensures ∙ c.if-is_bad_control.true)

pub loop-i-preserved : goal.loop-i-preserved
loop-i-preserved c =
    (omega (arith, inside (goal.at.loop-i-preserved c).In-loop-i), rw add-one (spot (goal.at.loop-i-preserved c).After-next_spot-x), below_more _ _ c.loop-i.invariant.2 (sym c.is_bad_control.ensures ∙ c.if-is_bad_control.false))

pub returns : goal.returns
returns c =
    found_none c.args.program.now (bad_control_at (words c.args.program.now)) c.loop-i.i c.loop-i.invariant.2 c.loop-i-test.false

pub syllable-requires : goal.syllable-requires
syllable-requires c = inside (goal.at.syllable-requires c).In-loop-i

pub is_bad_control-requires : goal.is_bad_control-requires
is_bad_control-requires c = record { x_value = spot (goal.at.is_bad_control-requires c).After-next_spot-x; last_value = c.last_start-last.ensures }
