-- The loop's invariant: no instruction before the one at `at` is too wide, and what is left of it breaks 6, for what is left of the counts, if all
-- of it does for the table.
use mathlib.Core.Path.{◌≡◌, refl, sym, ap, ◌∙◌}
use mathlib.Core.Bool.{Bool, true, ◌||◌, ◌&&◌}
use mathlib.Core.Bool.{or-false as or_nothing}
use mathlib.Core.Logic.{inl}
use mathlib.Core.List.{[]}
use Prim.Native.Nat.{◌+◌, ◌<◌}
use native.Mathlib.Nat.{zero-add}
use native.Mathlib.Omega.{arith}
use lib.ListN.{drop}
use Rattle.std.specs.Iterator.Adapters.{enumerate_source, enumerate_count}
use Rattle.word.specs.Choice.{pick}
use Rattle.word.specs.Bytes.{words}
use Rattle.word.proofs.Bytes.{words_length}
use Rattle.isa.specs.Control.{is_control}
use Rattle.isa.specs.Program.{spots, instruction_at}
use Rattle.isa.specs.Walk.{spots_left}
use Rattle.isa.specs.declared.Spot.{Spot}
use Rattle.isa.proofs.Instructions.{spots_length}
use Rattle.refusals.specs.Broken.{too_wide, too_wide_at}
use Rattle.refusals.proofs.Takes.{and_no, rest, rest_none, rest_on}
use Rattle.refusals.proofs.Turns.{Within, Passed, inside, spot_here, left_next, all_passed, begins, goes_on, told, passes, found, ended}
use Rattle.refusals.proofs.instructions.too_wide.Goals as goal
use Rattle.refusals.proofs.instructions.too_wide.Goals.{then-x, else-x}
use Rattle.refusals.proofs.instructions.too_wide.Goals.{After-overfills}

pub loop-i-init-derived : goal.loop-i-init-derived
loop-i-init-derived c =
    rw (c.into_iter-i-iterator.ensures.into_iter_gives, c.enumerate-i-items.ensures.source, c.enumerate-i-items.ensures.count, c.spots.ensures)
    ((tt, tt, inl (omega (arith, spots_length (words c.args.program.now), words_length c.args.program.now))), tt)

-- the turn's spot stands in the instruction at `at`
within : (c : After-overfills) → (c.if-x.left.clusters ≡ c.args.table.clusters)
    × Within (too_wide c.args.table) c.args.program.now c.if-x.at.0 (enumerate_count c.loop-i.i-iterator) (rest c.args.table.clusters c.if-x.left c.if-x.controlled)
within c =
    let p = words c.args.program.now in
    let i = enumerate_count c.loop-i.i-iterator in
    let s = c.in-Some.ensures.steps in
    let first = ap (λ (x : Spot). x.first) (sym (spot_here p i c.loop-i.invariant.0 s.0)) in
    elim c.if-x.branch as (λ _. (c.if-x.left.clusters ≡ c.args.table.clusters) × Within (too_wide c.args.table) c.args.program.now c.if-x.at.0 i (rest c.args.table.clusters c.if-x.left c.if-x.controlled)) [
      | then-x w ↦ (
        rw (w.left-is, w.refill.ensures) c.loop-i.invariant.1,
        rw (w.at-is, w.left-is, w.refill.ensures, w.controlled-is, s.1)
            (begins (too_wide c.args.table) c.args.program.now i (rest_none c.args.table.clusters c.loop-i.left c.loop-i.controlled) c.loop-i.invariant.2 (first ∙ w.if-x.true) (λ xs. rw zero-add)),
      )
      | else-x w ↦ (
        rw w.left-is c.loop-i.invariant.1,
        rw (w.at-is, w.left-is, w.controlled-is)
            (goes_on (too_wide c.args.table) c.args.program.now i c.loop-i.invariant.2 (inside p i c.loop-i.invariant.0 s.0) (first ∙ w.if-x.false)),
      )
    ]

-- the turn: whether the syllable breaks 6, t being whether it is control, or those after it
tested : (c : After-overfills) {t : Bool} → t ≡ is_control c.in-Some.x.syllable
    → (c.overfills.result || (c.if-x.controlled && t))
    || rest c.args.table.clusters c.overfills.new.left (c.if-x.controlled || t) (pick c.in-Some.x.last [] (instruction_at (words c.args.program.now) (enumerate_count c.loop-i.i-iterator + 1)))
    ≡ too_wide c.args.table (instruction_at (words c.args.program.now) c.if-x.at.0)
tested c control =
    let p = words c.args.program.now in
    let i = enumerate_count c.loop-i.i-iterator in
    let s = c.in-Some.ensures.steps in
    let xs = pick c.in-Some.x.last [] (instruction_at p (i + 1)) in
    let (clusters, w) = within c in
    sym (rest_on c.args.table.clusters c.if-x.left c.overfills.new.left c.if-x.controlled c.overfills.result c.in-Some.x xs (rw clusters at (c.overfills.ensures.is xs)) control)
    ∙ told (too_wide c.args.table) c.args.program.now w (inside p i c.loop-i.invariant.0 s.0) (spot_here p i c.loop-i.invariant.0 s.0)

-- what the following turn begins with
further : (c : After-overfills) (controlled : Bool)
    → rest c.args.table.clusters c.overfills.new.left controlled (pick c.in-Some.x.last [] (instruction_at (words c.args.program.now) (enumerate_count c.loop-i.i-iterator + 1)))
    ≡ too_wide c.args.table (instruction_at (words c.args.program.now) c.if-x.at.0)
    → (spots_left (enumerate_source c.next.new.self) ≡ drop (enumerate_count c.next.new.self) (spots (words c.args.program.now)))
    × (c.overfills.new.left.clusters ≡ c.args.table.clusters)
    × (0 < enumerate_count c.next.new.self → Passed (too_wide c.args.table) c.args.program.now c.if-x.at.0 (enumerate_count c.next.new.self) (rest c.args.table.clusters c.overfills.new.left controlled))
further c controlled e =
    let p = words c.args.program.now in
    let i = enumerate_count c.loop-i.i-iterator in
    let s = c.in-Some.ensures.steps in
    let (clusters, w) = within c in
    rw s.2
    (left_next p i c.loop-i.invariant.0 s.0, c.overfills.ensures.clusters ∙ clusters, λ _. passes (too_wide c.args.table) c.args.program.now w (inside p i c.loop-i.invariant.0 s.0) (spot_here p i c.loop-i.invariant.0 s.0) {k = rest c.args.table.clusters c.overfills.new.left controlled} e)

pub returns-then-overfills : goal.returns-then-overfills
unfolding too_wide_at
returns-then-overfills c =
    let d = (goal.at.returns-then-overfills c).After-overfills in
    found (too_wide c.args.table) c.args.program.now (within d).1 (sym (rw c.if-overfills.true at (tested d refl)))

pub returns-then-controlled : goal.returns-then-controlled
unfolding too_wide_at
returns-then-controlled c =
    let d = (goal.at.returns-then-controlled c).After-overfills in
    found (too_wide c.args.table) c.args.program.now (within d).1 (sym (rw (c.if-overfills.false, c.if-controlled.true, c.if-is_control.true) at (tested d c.is_control.ensures)))

pub loop-i-preserved-then-is_control : goal.loop-i-preserved-then-is_control
loop-i-preserved-then-is_control c =
    let d = (goal.at.loop-i-preserved-then-is_control c).After-overfills in
    further d true (rw (c.if-overfills.false, c.if-controlled.false, c.if-is_control.true) at (tested d c.is_control.ensures))

pub loop-i-preserved : goal.loop-i-preserved
loop-i-preserved c =
    let d = (goal.at.loop-i-preserved c).After-overfills in
    further d c.if-x.controlled (rw (c.if-overfills.false, c.if-is_control.false, and_no, or_nothing) at (tested d c.is_control.ensures))

pub returns : goal.returns
unfolding too_wide_at
returns c = ended (too_wide c.args.table) c.args.program.now (enumerate_count c.loop-i.i-iterator) (rest_none c.args.table.clusters c.loop-i.left c.loop-i.controlled) c.loop-i.invariant.2 (all_passed (words c.args.program.now) _ c.loop-i.invariant.0 c.in-None.ensures.steps.0.0)
