-- The chain of the iterators gives the delays.
use Rattle.std.proofs.Common.{ap, ◌∙◌, rules}
use Rattle.std.specs.Option.{unwrap_or}
use Rattle.std.proofs.lemmas.Iterator.{YieldsList-from_slice, YieldsList-from_map}
use Rattle.std.proofs.lemmas.Iterator.Consumers.{reduce_from_yields_List}
use Rattle.std.proofs.lemmas.List.Folds.{max_of_map}
use Rattle.schedule.specs.declared.late.Late.{Late}
use Rattle.schedule.proofs.late.longest.Goals as goal

pub returns : goal.returns
returns c =
    let s = c.args.late.now in
    c.unwrap_or.ensures
    ∙ ap (λ o. unwrap_or o 0) (reduce_from_yields_List _ c.map.result _ c.max.ensures.ran (YieldsList-from_map _ (λ (x : Late). x.delay) (YieldsList-from_slice s cc) c.map.ensures.closure (λ x b q k. search rules)))
    ∙ max_of_map (λ (x : Late). x.delay) s
