-- The first of those that are left is put.
use Rattle.ticks.specs.Ticks.{nothing_made}
use Rattle.ticks.proofs.Latest.{later_second, freed_later}
use Rattle.ticks.proofs.Results.{clear_first, clear_rest, put_turn}
use Rattle.ticks.proofs.Registers.commit_by.Goals as goal

pub put-requires-clause-m_bound : goal.put-requires-clause-m_bound
put-requires-clause-m_bound g c =
    let k = c.loop-k.k in
    let h = c.loop-k-test.true in
    let d = c.requires.results.delay k nothing_made h in
    (c.requires.results.register k nothing_made h, d.0, d.1, c.requires.in_time k _ h c.landing-d.ensures, c.requires.t_bound, clear_first c.args.results.now k h c.loop-k.invariant.2)

pub loop-k-preserved : goal.loop-k-preserved
loop-k-preserved g c =
    let k = c.loop-k.k in
    let h = c.loop-k-test.true in (
      c.put.ensures.bank,
      rw c.later-until.ensures (c.put.ensures.freed _ (later_second _ _) (freed_later _ _ c.loop-k.invariant.1)),
      clear_rest c.args.results.now k h c.loop-k.invariant.2 c.put.ensures.elsewhere,
      λ bs e. put_turn c.args.results.now bs k _ _ _ h (rw (e k _ h c.landing-d.ensures) at c.put.ensures.is) (c.loop-k.invariant.3 bs e),
    )
