use mathlib.Core.Path.{◌≡◌}
use Prim.Native.Nat.{◌+◌, ◌*◌, ◌-◌, ◌≤◌}
use lib.ListN.{length, drop}
use Rattle.tokens.specs.Tokens.{tokens}
use Rattle.expressions.specs.Meaning.{value_e, value_t}
use Rattle.expressions.specs.Reader.{map_got, read_e, read_t}
use Rattle.expressions.proofs.Steps.{terms_run, factors_run}
use Rattle.evaluation.specs.Evaluated.{labels_of}
use Rattle.evaluation.proofs.readers.+expression_factor_term.Given as goal

abbrev pub decreases-expression : goal.decreases-expression
decreases-expression l = 3 * l.depth + 2

abbrev pub decreases-factor : goal.decreases-factor
decreases-factor l = 3 * l.depth

abbrev pub decreases-term : goal.decreases-term
decreases-term l = 3 * l.depth + 1

abbrev pub invariant-expression-loop-b : goal.invariant-expression-loop-b
invariant-expression-loop-b l =
    (l.at ≤ l.p) × (l.p ≤ length l.line)
    × (map_got (value_e (labels_of l.labels.text.now)) (read_e l.depth (tokens (drop l.at l.line))) ≡ terms_run (labels_of l.labels.text.now) l.depth l.v (tokens (drop l.p l.line)))

abbrev pub decreases-expression-loop-b : goal.decreases-expression-loop-b
decreases-expression-loop-b l = length l.line - l.p

abbrev pub invariant-term-loop-q : goal.invariant-term-loop-q
invariant-term-loop-q l =
    (l.at ≤ l.p) × (l.p ≤ length l.line)
    × (map_got (value_t (labels_of l.labels.text.now)) (read_t l.depth (tokens (drop l.at l.line))) ≡ factors_run (labels_of l.labels.text.now) l.depth l.v (tokens (drop l.p l.line)))

abbrev pub decreases-term-loop-q : goal.decreases-term-loop-q
decreases-term-loop-q l = length l.line - l.p
