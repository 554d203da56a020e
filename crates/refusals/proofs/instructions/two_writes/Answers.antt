-- The loop's invariant: no instruction before the one at `at` repeats a destination, one of its syllables that are left is stamped or repeated if
-- one of all of them is repeated, and no stamp is above its place.
use mathlib.Core.Path.{◌≡◌, refl, sym, ap, ◌∙◌}
use mathlib.Core.Logic.{inl}
use mathlib.Core.Bool.{◌||◌}
use mathlib.Core.List.{List, [], map}
use Prim.Native.Nat.{ℕ, ◌+◌, ◌≤◌, ◌<◌}
use native.Mathlib.Omega.{arith}
use lib.ListN.{length}
use Rattle.std.specs.Iterator.Adapters.{enumerate_count}
use Rattle.word.specs.Choice.{pick}
use Rattle.word.specs.Bytes.{words}
use Rattle.word.proofs.Bytes.{words_length}
use Rattle.isa.specs.Program.{spot_at, instruction_at, operation}
use Rattle.isa.specs.Touch.{destinations}
use Rattle.isa.specs.declared.Spot.{Spot}
use Rattle.isa.proofs.Instructions.{spots_length, start_inside}
use Rattle.refusals.specs.Broken.{two_writes_at}
use Rattle.refusals.proofs.Stamps.{clashes_none, unstamped, Sized, stamped_first, stamped_op, registers_in_lem}
use Rattle.refusals.proofs.Turns.{Within, inside, spot_here, left_next, all_passed, begins, later, goes_on, told, passes, found, ended}
use Rattle.refusals.proofs.instructions.two_writes.Goals as goal
use Rattle.refusals.proofs.instructions.two_writes.Goals.{then-x, else-x}
use Rattle.refusals.proofs.instructions.two_writes.Goals.{After-cluster, After-destinations-d, After-stamp-in-loop-i}
use Rattle.refusals.proofs.instructions.two_writes.Invariants.{repeated, stamped_or_repeated}

pub loop-i-init-derived : goal.loop-i-init-derived
loop-i-init-derived c =
    rw (c.into_iter-i-iterator.ensures.into_iter_gives, c.enumerate-i-items.ensures.source, c.enumerate-i-items.ensures.count, c.spots.ensures)
    ((tt, tt, inl (omega (arith, spots_length (words c.args.program.now), words_length c.args.program.now))), tt)

pub loop-i-init : goal.loop-i-init
loop-i-init c =
    rw (c.into_iter-i-iterator.ensures.into_iter_gives, c.enumerate-i-items.ensures.source, c.enumerate-i-items.ensures.count, c.spots.ensures)
    (refl, (refl, unstamped 288 0), λ h. absurd (omega arith))

few : (p : List ℕ) (i : ℕ) {x : Spot} → ((j : ℕ) → j < length p → (spot_at p j).opened ≤ 4) → i < length p → x ≡ spot_at p i → x.opened ≤ 4
few p i h b e = rw e (h i b)

in_four : (c : After-cluster) → c.cluster.result < 4
in_four c =
    let p = words c.args.program.now in
    let i = enumerate_count c.loop-i.i-iterator in
    let s = c.in-Some.ensures.steps in
    omega (arith, c.cluster.ensures, few p i c.requires (inside p i c.loop-i.invariant.0 s.0) (spot_here p i c.loop-i.invariant.0 s.0))

registers : (c : After-destinations-d) → (c.destinations-d.result.t < 288) × (c.destinations-d.result.carry < 288)
registers c =
    let p = words c.args.program.now in
    let i = enumerate_count c.loop-i.i-iterator in
    let s = c.in-Some.ensures.steps in
    registers_in_lem c.in-Some.x c.destinations-d.result (few p i c.requires (inside p i c.loop-i.invariant.0 s.0) (spot_here p i c.loop-i.invariant.0 s.0)) (rw (c.destinations-d.ensures, c.cluster.ensures))

-- a turn begins in the instruction at `at`, with the stamps m
abbrev Begun : List ℕ → ℕ → ℕ → List ℕ → Type 0
Begun l at i m = Sized (at + 1) m × Within repeated l at i (stamped_or_repeated (at + 1) m)

begun : (c : After-destinations-d) → Begun c.args.program.now c.if-x.at.0 (enumerate_count c.loop-i.i-iterator) c.loop-i.stamps
begun c =
    let p = words c.args.program.now in
    let i = enumerate_count c.loop-i.i-iterator in
    let s = c.in-Some.ensures.steps in
    let (long, most) = c.loop-i.invariant.1 in
    let first = ap (λ (x : Spot). x.first) (sym (spot_here p i c.loop-i.invariant.0 s.0)) in
    let within = inside p i c.loop-i.invariant.0 s.0 in
    elim c.if-x.branch as (λ _. Begun c.args.program.now c.if-x.at.0 i c.loop-i.stamps) [
      | then-x w ↦
          rw (w.at-is, s.1)
          ((long, λ r. omega (arith, most r)), begins repeated c.args.program.now i {g = stamped_or_repeated (c.loop-i.at.0 + 1) c.loop-i.stamps} refl (λ h. (c.loop-i.invariant.2 h).1) (first ∙ w.if-x.true) (λ xs. clashes_none (i + 1) c.loop-i.stamps (destinations (map operation xs)) (λ r. omega (arith, most r))))
      | else-x w ↦
          rw w.at-is
          ((c.loop-i.invariant.2 (later repeated c.args.program.now i within (first ∙ w.if-x.false))).0, goes_on repeated c.args.program.now i (λ h. (c.loop-i.invariant.2 h).1) within (first ∙ w.if-x.false))
    ]

-- the turn: whether a destination was stamped, or those after it clash
tested : (c : After-stamp-in-loop-i) → Begun c.args.program.now c.if-x.at.0 (enumerate_count c.loop-i.i-iterator) c.loop-i.stamps
    → Sized (c.if-x.at.0 + 1) c.stamp-in-loop-i.new.stamps
    × ((c.stamp.result || c.stamp-in-loop-i.result) || stamped_or_repeated (c.if-x.at.0 + 1) c.stamp-in-loop-i.new.stamps (pick c.in-Some.x.last [] (instruction_at (words c.args.program.now) (enumerate_count c.loop-i.i-iterator + 1)))
    ≡ repeated (instruction_at (words c.args.program.now) c.if-x.at.0))
tested c (sized, w) =
    let p = words c.args.program.now in
    let i = enumerate_count c.loop-i.i-iterator in
    let s = c.in-Some.ensures.steps in
    let within = inside p i c.loop-i.invariant.0 s.0 in
    let here = spot_here p i c.loop-i.invariant.0 s.0 in
    let same : c.destinations-d.result ≡ record { t = (operation c.in-Some.x).t; carry = (operation c.in-Some.x).carry } = rw (c.destinations-d.ensures, c.cluster.ensures) in
    let below = registers_in_lem c.in-Some.x c.destinations-d.result (few p i c.requires within here) same in
    let (still, clash) = stamped_op (c.if-x.at.0 + 1) c.loop-i.stamps (operation c.in-Some.x) c.destinations-d.result same below sized (c.stamp.ensures.was, c.stamp.ensures.is) (c.stamp-in-loop-i.ensures.was, c.stamp-in-loop-i.ensures.is) in
    (still, sym (clash (map operation (pick c.in-Some.x.last [] (instruction_at p (i + 1))))) ∙ told repeated c.args.program.now w within here)

pub overflow_cast-cluster : goal.overflow_cast-cluster
overflow_cast-cluster c = omega (arith, in_four (goal.at.overflow_cast-cluster c).After-cluster)

pub destinations-d-requires : goal.destinations-d-requires
destinations-d-requires c = in_four (goal.at.destinations-d-requires c).After-cluster

pub overflow_add-at : goal.overflow_add-at
overflow_add-at c =
    omega (arith, words_length c.args.program.now, start_inside (words c.args.program.now) c.if-x.at.0 (begun (goal.at.overflow_add-at c).After-destinations-d).1.start)

pub stamp-requires : goal.stamp-requires
stamp-requires c = (registers (goal.at.stamp-requires c).After-destinations-d).0

pub returns-then-stamp : goal.returns-then-stamp
unfolding two_writes_at
returns-then-stamp c =
    let p = words c.args.program.now in
    let i = enumerate_count c.loop-i.i-iterator in
    let s = c.in-Some.ensures.steps in
    let within = inside p i c.loop-i.invariant.0 s.0 in
    let here = spot_here p i c.loop-i.invariant.0 s.0 in
    let d = (goal.at.returns-then-stamp c).After-destinations-d in
    let (sized, w) = begun d in
    let same : c.destinations-d.result ≡ record { t = (operation c.in-Some.x).t; carry = (operation c.in-Some.x).carry } = rw (c.destinations-d.ensures, c.cluster.ensures) in
    let (still, clash) = stamped_first (c.if-x.at.0 + 1) c.loop-i.stamps (operation c.in-Some.x) c.destinations-d.result same (registers d) sized (c.stamp.ensures.was, c.stamp.ensures.is) c.if-stamp.true in
    found repeated c.args.program.now w (sym (told repeated c.args.program.now w within here) ∙ clash (map operation (pick c.in-Some.x.last [] (instruction_at p (i + 1)))))

pub overflow_add-at-in-loop-i : goal.overflow_add-at-in-loop-i
overflow_add-at-in-loop-i c =
    omega (arith, words_length c.args.program.now, start_inside (words c.args.program.now) c.if-x.at.0 (begun (goal.at.overflow_add-at-in-loop-i c).After-destinations-d).1.start)

pub stamp-requires-in-loop-i : goal.stamp-requires-in-loop-i
stamp-requires-in-loop-i c = (registers (goal.at.stamp-requires-in-loop-i c).After-destinations-d).1

pub returns-then-stamp-2 : goal.returns-then-stamp-2
unfolding two_writes_at
returns-then-stamp-2 c =
    let b = begun (goal.at.returns-then-stamp-2 c).After-destinations-d in
    found repeated c.args.program.now b.1 (sym (rw (c.if-stamp.false, c.if-stamp-2.true) at ((tested (goal.at.returns-then-stamp-2 c).After-stamp-in-loop-i b).1)))

pub loop-i-preserved : goal.loop-i-preserved
loop-i-preserved c =
    let p = words c.args.program.now in
    let i = enumerate_count c.loop-i.i-iterator in
    let s = c.in-Some.ensures.steps in
    let within = inside p i c.loop-i.invariant.0 s.0 in
    let here = spot_here p i c.loop-i.invariant.0 s.0 in
    let b = begun (goal.at.loop-i-preserved c).After-destinations-d in
    let (sized, e) = tested (goal.at.loop-i-preserved c).After-stamp-in-loop-i b in
    rw s.2
    (left_next p i c.loop-i.invariant.0 s.0, (sized.0, λ r. omega (arith, sized.1 r, b.1.reached)), λ _. (sized, passes repeated c.args.program.now b.1 within here {k = stamped_or_repeated (c.if-x.at.0 + 1) c.stamp-in-loop-i.new.stamps} (rw (c.if-stamp.false, c.if-stamp-2.false) at e)))

pub returns : goal.returns
unfolding two_writes_at
returns c =
    ended repeated c.args.program.now (enumerate_count c.loop-i.i-iterator) {g = stamped_or_repeated (c.loop-i.at.0 + 1) c.loop-i.stamps} refl (λ h. (c.loop-i.invariant.2 h).1) (all_passed (words c.args.program.now) _ c.loop-i.invariant.0 c.in-None.ensures.steps.0.0)
