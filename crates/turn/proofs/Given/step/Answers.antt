-- The turn ends as what the pass gathered says; else everything is written.
use mathlib.Core.Path.{sym, ◌∙◌}
use Prim.Native.Nat.{◌<◌}
use native.Mathlib.Omega.{arith}
use lib.ListN.{length}
use Rattle.std.proofs.lemmas.Result.{err_from_is_err_and}
use Rattle.ticks.proofs.Views.{bank_later}
use Rattle.word.specs.Bytes.{words}
use Rattle.word.proofs.Bytes.{words_length}
use Rattle.isa.proofs.Instructions.{start_inside, following_within}
use Rattle.turn.proofs.Turns.{end_follows, gathered, flying_before, written_clear, turn_off, turn_went}
use Rattle.turn.proofs.Given.step.Goals as goal
use Rattle.turn.proofs.Given.step.Goals.{Start}

inside : (c : Start) → c.args.at.place.0 < length (words c.args.self.now.program.now)
inside c = start_inside (words c.args.self.now.program.now) c.args.at.place.0 c.requires.running.start

pub overflow_add-end : goal.overflow_add-end
overflow_add-end c =
    let p = words c.args.self.now.program.now in
    let i = c.args.at.place.0 in
    omega (arith, end_follows c.cut-stretch.result.now p i c.cut-stretch.ensures, following_within p i (inside (goal.at.overflow_add-end c).Start), words_length c.args.self.now.program.now)

pub invariant_of-before-clause-idle : goal.invariant_of-before-clause-idle
invariant_of-before-clause-idle c = flying_before c.requires.running c.lt.ensures

-- with the place after the instruction
pub returns-in_err-against : goal.returns-in_err-against
returns-in_err-against c =
    let p = words c.args.self.now.program.now in
    let k = gathered (words c.cut-stretch.result.now) _ c.requires.running c.cut-stretch.ensures (end_follows c.cut-stretch.result.now p c.args.at.place.0 c.cut-stretch.ensures) c.collect-s.ensures in
    let r = err_from_is_err_and c.from_residual.result c.from_residual.ensures.1 in
    rw r.1 (turn_off c.requires.runs c.requires.running k _ _ (rw (r.2, ← c.stores.ensures) (sym c.in_err-against.was ∙ c.against.ensures)))

pub commit-free-requires-clause-bank_2 : goal.commit-free-requires-clause-bank_2
commit-free-requires-clause-bank_2 c = bank_later c.requires.running.bank (omega arith)

pub commit-free-requires-clause-freed_2 : goal.commit-free-requires-clause-freed_2
commit-free-requires-clause-freed_2 c = λ q h. c.requires.running.freed q (omega arith)

pub commit-free-requires-clause-clear : goal.commit-free-requires-clause-clear
commit-free-requires-clause-clear c =
    rw c.results-results.ensures (written_clear _ _ (words c.cut-stretch.result.now) c.requires.runs c.requires.running c.cut-stretch.ensures c.collect-s.ensures (sym c.in_ok-against.was ∙ c.against.ensures))

pub store_all-requires : goal.store_all-requires
store_all-requires c = rw c.stores-2.ensures c.collect-s.ensures.holds.stores

pub returns : goal.returns
returns c =
    let p = words c.args.self.now.program.now in
    let follows = end_follows c.cut-stretch.result.now p c.args.at.place.0 c.cut-stretch.ensures in
    let k = gathered (words c.cut-stretch.result.now) _ c.requires.running c.cut-stretch.ensures follows c.collect-s.ensures in
    rw (c.goal.ensures, c.results-results.ensures, c.link_after.ensures, follows)
    (turn_went c.requires.runs c.requires.running k _ (rw (← c.stores.ensures) (sym c.in_ok-against.was ∙ c.against.ensures)) c.commit-free.ensures.bank c.commit-free.ensures.freed
    (rw (← c.results-results.ensures) c.commit-free.ensures.is) _ (rw (← c.stores-2.ensures) c.store_all.ensures))
