-- The numbers that the range gives are those below its end.
use Rattle.std.proofs.Common.{rules, tests, ◌∙◌, ℕ, arith}
use Rattle.std.proofs.lemmas.Iterator.{YieldsList-from_range}
use Rattle.std.proofs.lemmas.Iterator.Search.{any_from_yields_List}
use Rattle.tables.specs.Table.{bad_units}
use Rattle.tables.proofs.Bounds.{any_range}
use Rattle.tables.proofs.any_bad_units.Goals as goal

pub returns : goal.returns
returns c =
    let n : ℕ = c.args.clusters in
    any_from_yields_List (bad_units c.args.bytes.now) _ _ c.any.result c.any.ensures.ran (YieldsList-from_range 0 n n (cc) (omega arith)) (λ x b q k. search (rules, tests))
    ∙ any_range (bad_units c.args.bytes.now) n
