-- What the walk gives are the stretch's spots.
use mathlib.Core.Path.{◌∙◌}
use Rattle.std.proofs.Common.{rules}
use Rattle.std.proofs.lemmas.Iterator.Consumers.{YieldsList-from_first}
use Rattle.std.proofs.lemmas.Iterator.Search.{any_from_yields_List}
use borrow.Author.Tests.{tests}
use Rattle.word.specs.Bytes.{words}
use Rattle.isa.specs.Program.{spots}
use Rattle.isa.specs.Walk.{spots_left}
use Rattle.refusals.specs.Broken.{leaving}
use Rattle.refusals.proofs.Walks.{any_listed}
use Rattle.refusals.proofs.control.any_leaves.Goals as goal

pub returns : goal.returns
returns c =
    any_from_yields_List leaving c.any.new.self _ _ c.any.ensures.ran (YieldsList-from_first (λ x. x) spots_left (spots (words c.args.stretch.now)) c.spots.ensures) (λ x b q k. search (rules, tests))
    ∙ any_listed leaving (spots (words c.args.stretch.now))
