use mathlib.Core.Path.{◌≡◌, ◌∙◌}
use Rattle.std.proofs.Common.{rules, tests}
use Rattle.std.specs.List.{prefix_len}
use Rattle.std.proofs.lemmas.Iterator.{IsFirst-from_position, YieldsList-from_slice}
use Rattle.tokens.specs.Tokens.{goes_on}
use Rattle.tokens.proofs.Prefixes.{Refuses, Takes, prefix_found, prefix_short, prefix_run}
use Rattle.tokens.proofs.run_length.Goals as goal

pub returns : goal.returns
returns c =
    let s = c.args.s.now in
    let f = goes_on c.args.b in
    let p = IsFirst-from_position _ _ _ (Refuses f) (Takes f) c.position.ensures.ran (YieldsList-from_slice c.args.s.now cc) (λ x q k. search (rules, tests)) (λ x q k. search (rules, tests)) in
    let e : c.unwrap_or.result ≡ prefix_len f s = c.unwrap_or.ensures ∙ prefix_found f s c.position.result p in
    let r = prefix_run f s in
    rw e (prefix_short f s, r.0, r.1)
