use mathlib.Core.Path.{◌≡◌, ◌∙◌}
use Rattle.std.proofs.Common.{rules, tests}
use Rattle.std.specs.List.{prefix_len}
use Rattle.std.proofs.lemmas.Iterator.{IsFirst-from_position, YieldsList-from_slice}
use Rattle.tokens.specs.Tokens.{is_blank}
use Rattle.tokens.proofs.Prefixes.{Refuses, Takes, prefix_found, prefix_short, prefix_run, blanks_skipped}
use Rattle.tokens.proofs.blanks.Goals as goal

pub returns : goal.returns
returns c =
    let s = c.args.s.now in
    let p = IsFirst-from_position _ _ _ (Refuses is_blank) (Takes is_blank) c.position.ensures.ran (YieldsList-from_slice c.args.s.now cc) (λ x q k. search (rules, tests)) (λ x q k. search (rules, tests)) in
    let e : c.unwrap_or.result ≡ prefix_len is_blank s = c.unwrap_or.ensures ∙ prefix_found is_blank s c.position.result p in
    rw e (prefix_short is_blank s, blanks_skipped s, (prefix_run is_blank s).1)
