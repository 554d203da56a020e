-- The closure gives a place's number.
use Rattle.std.proofs.Common.{rules}
use Rattle.std.proofs.lemmas.List.Sorted.{answers_always}
use Rattle.reach.specs.declared.Near.{Near}
use Rattle.reach.proofs.Searching.{searched}
use Rattle.reach.proofs.search.Goals as goal

pub returns : goal.returns
returns c =
    let facts = c.binary_search_by_key.ensures in
    let by_key = facts.position (λ (x : Near). x.place.0) (answers_always _ _ _ (λ f a r g called. search rules)) in
    searched _ c.requires _ _ facts.bound by_key
