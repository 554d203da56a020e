-- The first spot that the walk finds is the lowest place.
use mathlib.Core.Logic.{inl}
use mathlib.Core.Path.{ap, ◌∙◌}
use mathlib.Core.List.{List}
use native.Mathlib.Omega.{arith}
use lib.ListN.{length}
use Rattle.std.proofs.Common.{rules}
use Rattle.std.proofs.lemmas.Iterator.{IsFirst-from_position}
use Rattle.std.proofs.lemmas.Iterator.Consumers.{YieldsList-from_first}
use borrow.Author.Tests.{tests}
use Rattle.word.specs.Bytes.{words}
use Rattle.word.proofs.Bytes.{words_length}
use Rattle.isa.specs.Program.{spots}
use Rattle.isa.specs.Walk.{spots_left}
use Rattle.isa.specs.declared.Spot.{Spot}
use Rattle.isa.proofs.Instructions.{spots_length, spot_syllable}
use Rattle.isa.proofs.Lowest.{lowest_same}
use Rattle.refusals.specs.Broken.{bad_bits_at}
use Rattle.zero.specs.Zero.{bad_bits}
use Rattle.refusals.proofs.Walks.{Passes, Fails, found_first, placed}
use Rattle.refusals.proofs.syllables.bad_bits.Goals as goal

pub returns : goal.returns
unfolding bad_bits_at
returns c =
    let first =
    IsFirst-from_position c.position.new.self _ c.position.result (Passes (λ x. bad_bits x.syllable)) (Fails (λ x. bad_bits x.syllable)) c.position.ensures.ran (YieldsList-from_first (λ x. x) spots_left (spots (words c.args.program.now)) c.spots.ensures) (λ x q k. search (rules, tests)) (λ x q k. search (rules, tests)) in
    found_first (words c.args.program.now) (λ x. bad_bits x.syllable) c.position.result first (placed c.position.result c.map.result c.map.ensures.cases (λ i x q. search rules))
    ∙ lowest_same _ (bad_bits_at (words c.args.program.now)) _ (λ i h. ap bad_bits (spot_syllable (words c.args.program.now) i))

pub position-requires-clause-fits : goal.position-requires-clause-fits
position-requires-clause-fits c =
    inl (omega (arith, ap (λ (l : List Spot). length l) c.spots.ensures, spots_length (words c.args.program.now), words_length c.args.program.now))
