-- The loops' invariants: no producer passed is touched too soon, no place passed touches one of this producer's results too soon,
-- and no result passed is touched too soon by this place.
use borrow.Author.Count.{below_more}
use mathlib.Core.Path.{◌≡◌, sym, ap, ◌∙◌}
use mathlib.Core.Bool.{true}
use mathlib.Core.List.{List, ◌++◌}
use Prim.Native.Nat.{ℕ, suc, ◌-◌, ◌/◌, ◌^◌, ◌≤◌, ◌<◌}
use native.Mathlib.Nat.{not-suc-le-zero}
use native.Mathlib.Omega.{arith}
use lib.Dec.{eqb}
use lib.ListN.{length, get_or}
use Rattle.word.specs.Bytes.{words}
use Rattle.word.specs.Lists.{member}
use Rattle.word.proofs.Bytes.{words_length}
use Rattle.word.proofs.Choice.{never_both}
use Rattle.isa.specs.Program.{is_start, operations_at}
use Rattle.isa.specs.Touch.{reads, destinations}
use Rattle.isa.proofs.Instructions.{start_inside, start_zero, following_after, next_start}
use Rattle.reach.specs.Nexts.{nexts_at}
use Rattle.reach.specs.Near.{place_at, steps_at, Reaches}
use Rattle.reach.proofs.Reaching.{reach_start}
use Rattle.schedule.specs.Rule.{dests_at, TooSoonAt}
use Rattle.schedule.specs.Late.{late_at, LateOf}
use Rattle.schedule.proofs.Laid.{laid, decodable, inside}
use Rattle.schedule.proofs.Longest.{fold_longest, longest_within}
use Rattle.schedule.proofs.Stamps.{Told, told_none, told_more, told_touch}
use Rattle.schedule.proofs.Soon.{none_before, none_late, too_soon_lem, lowest, none}
use Rattle.schedule.proofs.check.Goals as goal
use Rattle.schedule.proofs.check.Goals.{After-stamp_touched, In-consumers, Joined-most-gt1, else-q-r-via-then-q-r+else-touches, else-q-r-via-else-q-r, then-most-gt1+else-consumers-test, else-most-gt1}

-- a producer within the program is a start
start : (l : List ℕ) (p : ℕ) → (p < length (words l) → is_start (words l) p ≡ true) → p < length l / 4 → is_start (words l) p ≡ true
start l p h b = h (inside l p b)

small : (l : List ℕ) (q : ℕ) → is_start (words l) q ≡ true → length l < 2 ^ 64 → q < 2 ^ 63
small l q h k = omega (arith, words_length l, start_inside (words l) q h)

-- the turn's consumer is a start
there : (c : In-consumers) → is_start (words c.args.program.now) (place_at c.as_slice-q-items.result.now c.consumers.q-index) ≡ true
there c =
    let here : is_start (words c.args.program.now) c.producers.p.0 ≡ true = start c.args.program.now c.producers.p.0 c.producers.invariant.1 c.if-n-p.false in
    let reached : Reaches (nexts_at (words c.args.program.now)) c.producers.p.0 (c.longest-most.result - 1) c.as_slice-q-items.result.now = rw c.as_slice-q-items.ensures.value c.reach.ensures in
    reach_start (laid c.requires.bounds c.requires.passed) _ here (steps_at c.as_slice-q-items.result.now c.consumers.q-index) _ (reached.sound c.consumers.q-index (omega arith)).1

-- the consumer's stamps are on the registers that it touches
told : (c : After-stamp_touched) → Told (words c.args.program.now) c.stamp_touched.new.stamps
told c = told_more (words c.args.program.now) (place_at c.as_slice-q-items.result.now c.consumers.q-index) c.consumers.invariant.0 (rw c.cut-in-consumers.ensures at c.stamp_touched.ensures)

tells : (c : After-stamp_touched) (b : ℕ) → b < length c.late_results.new.late.items
    → let q = place_at c.as_slice-q-items.result.now c.consumers.q-index in
    let os = operations_at (words c.args.program.now) q in
    let r = (late_at c.late_results.new.late.items b).reg in
    eqb (get_or c.stamp_touched.new.stamps r 0) (suc q) ≡ member r (reads os ++ destinations os)
tells c b l =
    told_touch (words c.args.program.now) (place_at c.as_slice-q-items.result.now c.consumers.q-index) c.consumers.invariant.0 (rw c.cut-in-consumers.ensures at c.stamp_touched.ensures) _ (c.late_results.ensures.some b l)

pub producers-init : goal.producers-init
producers-init c = (told_none (words c.args.program.now) 288, start_zero (words c.args.program.now), λ i b. absurd (not-suc-le-zero b))

pub cut-requires : goal.cut-requires
cut-requires c = start c.args.program.now c.producers.p.0 c.producers.invariant.1 c.if-n-p.false

pub late_results-requires-clause-decodable : goal.late_results-requires-clause-decodable
late_results-requires-clause-decodable c =
    decodable _ (laid c.requires.bounds c.requires.passed) (start c.args.program.now c.producers.p.0 c.producers.invariant.1 c.if-n-p.false) c.cut.ensures

pub reach-requires-clause-laid : goal.reach-requires-clause-laid
reach-requires-clause-laid c = laid c.requires.bounds c.requires.passed

pub reach-requires-clause-p_value : goal.reach-requires-clause-p_value
reach-requires-clause-p_value c = start c.args.program.now c.producers.p.0 c.producers.invariant.1 c.if-n-p.false

pub reach-requires-clause-le_most : goal.reach-requires-clause-le_most
reach-requires-clause-le_most c =
    let longest : c.longest-most.result ≡ fold_longest c.late_results.new.late.items = c.longest-most.ensures ∙ rw c.as_slice.ensures.value in
    let low : fold_longest c.late_results.new.late.items ≤ 8 = longest_within 8 _ c.late_results.ensures.most in
    (omega arith, omega arith)

pub cut-requires-in-consumers : goal.cut-requires-in-consumers
cut-requires-in-consumers c = there (goal.at.cut-requires-in-consumers c).In-consumers

pub stamp_touched-requires-clause-decodable : goal.stamp_touched-requires-clause-decodable
stamp_touched-requires-clause-decodable c =
    decodable _ (laid c.requires.bounds c.requires.passed) (there (goal.at.stamp_touched-requires-clause-decodable c).In-consumers) c.cut-in-consumers.ensures

pub stamp_touched-requires-clause-at_bound : goal.stamp_touched-requires-clause-at_bound
stamp_touched-requires-clause-at_bound c =
    small c.args.program.now _ (there (goal.at.stamp_touched-requires-clause-at_bound c).In-consumers) (omega arith)

pub touches-requires : goal.touches-requires
touches-requires c = (
  small c.args.program.now _ (there (goal.at.touches-requires c).In-consumers) (omega arith),
  rw c.as_slice-r-items.ensures.value (c.late_results.ensures.below c.registers.r-index (omega (arith, ap length c.as_slice-r-items.ensures.value))),
)

pub registers-preserved : goal.registers-preserved
registers-preserved c =
    let same = c.as_slice-r-items.ensures.value in
    below_more _ c.registers.r-index c.registers.invariant
    λ soon. elim c.else-q-r.branch [
      | else-q-r-via-then-q-r+else-touches w ↦
          never_both (rw same at soon.1) (sym (tells (goal.at.registers-preserved c).After-stamp_touched c.registers.r-index (omega (arith, ap length same))) ∙ sym (rw same at w.touches.ensures) ∙ w.if-touches.false)
      | else-q-r-via-else-q-r w ↦ omega (arith, soon.0)
    ]

pub consumers-preserved : goal.consumers-preserved
consumers-preserved c =
    let same = c.as_slice-r-items.ensures.value in (
      told (goal.at.consumers-preserved c).After-stamp_touched,
      below_more _ c.consumers.q-index c.consumers.invariant.1 λ b l. (rw same at c.registers.invariant) b (omega (arith, ap length same)),
    )

pub following-p-requires : goal.following-p-requires
following-p-requires c = inside c.args.program.now c.producers.p.0 c.if-n-p.false

-- the producer is not touched too soon
clean : (c : Joined-most-gt1)
    → Told (words c.args.program.now) c.if-most-gt1.stamps
    × ((q : ℕ) → TooSoonAt c.args.table.delays (words c.args.program.now) c.producers.p.0 q → ⊥)
clean c =
    let d = c.args.table.delays in
    let w = words c.args.program.now in
    let h : LateOf (dests_at d w c.producers.p.0) c.late_results.new.late.items = rw c.cut.ensures at c.late_results.ensures in
    let here : is_start w c.producers.p.0 ≡ true = start c.args.program.now c.producers.p.0 c.producers.invariant.1 c.if-n-p.false in
    let longest : c.longest-most.result ≡ fold_longest c.late_results.new.late.items = c.longest-most.ensures ∙ rw c.as_slice.ensures.value in
    elim c.if-most-gt1.branch [
      | then-most-gt1+else-consumers-test x ↦
          let reached : Reaches (nexts_at w) c.producers.p.0 (c.longest-most.result - 1) x.as_slice-q-items.result.now = rw x.as_slice-q-items.ensures.value x.reach.ensures in
          (rw x.stamps-is x.consumers.invariant.0, none d w _ here h _ reached (omega arith) x.consumers.q-index x.consumers.invariant.1 (omega arith))
      | else-most-gt1 x ↦ (rw x.stamps-is c.producers.invariant.0, none_late d w _ here h (omega arith))
    ]

pub producers-smaller : goal.producers-smaller
producers-smaller c =
    omega (arith, c.following-p.ensures, following_after (words c.args.program.now) c.producers.p.0 (inside c.args.program.now c.producers.p.0 c.if-n-p.false))

pub producers-preserved : goal.producers-preserved
producers-preserved c =
    let within = inside c.args.program.now c.producers.p.0 c.if-n-p.false in
    let (stamps, clear) = clean (goal.at.producers-preserved c).Joined-most-gt1 in (
      stamps,
      rw c.following-p.ensures (next_start (words c.args.program.now) c.producers.p.0 within),
      rw c.following-p.ensures (none_before c.args.table.delays (words c.args.program.now) c.producers.p.0 within c.producers.invariant.2 clear),
    )

pub returns-then-n-p : goal.returns-then-n-p
returns-then-n-p c = λ i j t.
    c.producers.invariant.2 i (omega (arith, start_inside (words c.args.program.now) i t.producer, words_length c.args.program.now)) j t

pub returns-then-touches : goal.returns-then-touches
returns-then-touches c =
    let d = c.args.table.delays in
    let w = words c.args.program.now in
    let same = c.as_slice-r-items.ensures.value in
    let h : LateOf (dests_at d w c.producers.p.0) c.late_results.new.late.items = rw c.cut.ensures at c.late_results.ensures in
    let here : is_start w c.producers.p.0 ≡ true = start c.args.program.now c.producers.p.0 c.producers.invariant.1 c.if-n-p.false in
    let longest : c.longest-most.result ≡ fold_longest c.late_results.new.late.items = c.longest-most.ensures ∙ rw c.as_slice.ensures.value in
    let reached : Reaches (nexts_at w) c.producers.p.0 (c.longest-most.result - 1) c.as_slice-q-items.result.now = rw c.as_slice-q-items.ensures.value c.reach.ensures in
    let b : c.registers.r-index < length c.late_results.new.late.items = omega (arith, ap length same) in (
      too_soon_lem d w _ here h _ reached c.consumers.q-index c.registers.r-index (omega arith) b
          (rw same at c.if-q-r.true, sym (tells (goal.at.returns-then-touches c).After-stamp_touched c.registers.r-index b) ∙ sym (rw same at c.touches.ensures) ∙ c.if-touches.true),
      λ i j t.
          let n : ¬ (i < c.producers.p.0) = λ l. c.producers.invariant.2 i l j t in
          omega arith,
      lowest d w _ here h _ reached (omega arith) c.consumers.q-index c.consumers.invariant.1,
    )
