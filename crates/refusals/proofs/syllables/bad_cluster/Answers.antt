-- The first spot that the walk finds is the lowest place.
use mathlib.Core.Logic.{inl}
use mathlib.Core.Path.{ap}
use mathlib.Core.List.{List}
use native.Mathlib.Omega.{arith}
use lib.ListN.{length}
use Rattle.std.proofs.Common.{rules}
use Rattle.std.proofs.lemmas.Iterator.{IsFirst-from_position}
use Rattle.std.proofs.lemmas.Iterator.Consumers.{YieldsList-from_first}
use borrow.Author.Tests.{tests}
use Rattle.word.specs.Bytes.{words}
use Rattle.word.proofs.Bytes.{words_length}
use Rattle.isa.specs.Program.{spots}
use Rattle.isa.specs.Walk.{spots_left}
use Rattle.isa.specs.declared.Spot.{Spot}
use Rattle.isa.proofs.Instructions.{spots_length}
use Rattle.refusals.specs.Broken.{bad_cluster, bad_cluster_at}
use Rattle.refusals.proofs.Walks.{Passes, Fails, found_first, placed}
use Rattle.refusals.proofs.syllables.bad_cluster.Goals as goal

pub position-requires-clause-fits : goal.position-requires-clause-fits
position-requires-clause-fits c =
    inl (omega (arith, ap (λ (l : List Spot). length l) c.spots.ensures, spots_length (words c.args.program.now), words_length c.args.program.now))

pub returns : goal.returns
unfolding bad_cluster_at
returns c =
    let first =
    IsFirst-from_position c.position.new.self _ c.position.result (Passes (bad_cluster c.args.clusters)) (Fails (bad_cluster c.args.clusters)) c.position.ensures.ran (YieldsList-from_first (λ x. x) spots_left (spots (words c.args.program.now)) c.spots.ensures) (λ x q k. search (rules, tests)) (λ x q k. search (rules, tests)) in
    found_first (words c.args.program.now) (bad_cluster c.args.clusters) c.position.result first (placed c.position.result c.map.result c.map.ensures.cases (λ i x q. search rules))
