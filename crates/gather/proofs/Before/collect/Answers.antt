-- The invariant: what is kept of the operations so far.
use mathlib.Core.Path.{◌≡◌, refl, ◌∙◌}
use Prim.Native.Nat.{◌≤◌, ◌<◌}
use native.Mathlib.Numerals.{add-one}
use native.Mathlib.Omega.{arith}
use lib.ListN.{length}
use Rattle.word.specs.Bytes.{words}
use Rattle.word.proofs.Bytes.{words_length}
use Rattle.isa.specs.Program.{spot_at}
use Rattle.isa.proofs.Instructions.{walk_opened}
use Rattle.gather.proofs.Passes.{gathered_none, gathered_more, opened_some, opened_at, decoded_at, operations_more, operations_all, room}
use Rattle.gather.proofs.Before.collect.Goals as goal
use Rattle.gather.proofs.Before.collect.Goals.{After-opened-clusters, In-loop-j}

pub loop-j-init : goal.loop-j-init
loop-j-init c = record { clusters = refl; gathered = gathered_none c.clear.ensures c.clear-2.ensures }

inside : (c : In-loop-j) → c.loop-j.j < length (words c.args.stretch.now)
inside c = rw words_length c.loop-j-test.true

pub opened-clusters-requires : goal.opened-clusters-requires
opened-clusters-requires c =
    rw c.loop-j.invariant.clusters (omega (arith, inside (goal.at.opened-clusters-requires c).In-loop-j, words_length c.args.stretch.now, walk_opened (words c.args.stretch.now) c.loop-j.j (omega (arith, inside (goal.at.opened-clusters-requires c).In-loop-j))))

-- what is opened with the syllable that the walk is at
walked : (c : After-opened-clusters) → c.opened-clusters.result ≡ (spot_at (words c.args.stretch.now) c.loop-j.j).opened
walked c =
    opened_at (words c.args.stretch.now) c.requires.own c.loop-j.j (rw words_length c.loop-j-test.true) c.loop-j.invariant.clusters c.syllable-w.ensures c.opened-clusters.ensures

some : (c : After-opened-clusters) → (0 < c.opened-clusters.result) × (c.opened-clusters.result ≤ 4)
some c =
    rw (walked c) (opened_some (words c.args.stretch.now) c.requires.own _ (rw words_length c.loop-j-test.true))

pub step-s-requires-clause-c_bound : goal.step-s-requires-clause-c_bound
step-s-requires-clause-c_bound c = omega (arith, c.opened_by.ensures, some (goal.at.step-s-requires-clause-c_bound c).After-opened-clusters)

pub step-s-requires-clause-room : goal.step-s-requires-clause-room
step-s-requires-clause-room c =
    room (words c.args.stretch.now) c.requires.own _ (inside (goal.at.step-s-requires-clause-room c).In-loop-j) c.loop-j.invariant.gathered

pub loop-j-preserved : goal.loop-j-preserved
loop-j-preserved c =
    let ws = words c.args.stretch.now in
    let is = decoded_at ws c.requires.own c.loop-j.j (inside (goal.at.loop-j-preserved c).In-loop-j) (c.opened_by.ensures ∙ rw (walked (goal.at.loop-j-preserved c).After-opened-clusters)) c.syllable-w.ensures in
    record {
      clusters = walked (goal.at.loop-j-preserved c).After-opened-clusters ∙ rw (add-one c.loop-j.j);
      gathered = rw (is, operations_more ws c.requires.own c.loop-j.j (inside (goal.at.loop-j-preserved c).In-loop-j)) at (gathered_more (λ o. refl) c.loop-j.invariant.gathered c.step-s.ensures);
    }

pub returns : goal.returns
returns c =
    rw (operations_all (words c.args.stretch.now) c.loop-j.j (rw words_length c.loop-j-test.false)) at c.loop-j.invariant.gathered

pub syllable-w-requires : goal.syllable-w-requires
syllable-w-requires c = inside (goal.at.syllable-w-requires c).In-loop-j

pub opened_by-requires : goal.opened_by-requires
opened_by-requires c = (some (goal.at.opened_by-requires c).After-opened-clusters).0

pub overflow_cast-opened_by : goal.overflow_cast-opened_by
overflow_cast-opened_by c = omega (arith, c.opened_by.ensures, some (goal.at.overflow_cast-opened_by c).After-opened-clusters)
