-- The numbers that the range gives are those below its end.
use Rattle.std.proofs.Common.{rules, tests, ◌∙◌, ℕ, arith}
use Rattle.std.proofs.lemmas.Iterator.{YieldsList-from_range}
use Rattle.std.proofs.lemmas.Iterator.Search.{any_from_yields_List}
use Rattle.tables.specs.Table.{outside, delay}
use Rattle.tables.proofs.Bounds.{any_range}
use Rattle.tables.proofs.any_bad_delay.Goals as goal

pub returns : goal.returns
returns c =
    let n : ℕ = 5 in
    any_from_yields_List (λ j. outside c.args.bytes.now 1 8 (delay c.args.bytes.now j)) _ _ c.any.result c.any.ensures.ran (YieldsList-from_range 0 n n (cc) (omega arith)) (λ x b q k. search (rules, tests))
    ∙ any_range (λ j. outside c.args.bytes.now 1 8 (delay c.args.bytes.now j)) n
