-- What an expression comes to, from the left, where `env` has the labels' values.
use Rattle.std.specs.Prelude.{List, ℕ}
use Rattle.values.specs.Values.{Value, add, sub, mul, both, decimal}
use Rattle.expressions.specs.Grammar.{Sign, plus, minus, Star, Expression, expression, Terms, no_terms, more_terms, Term, term, Factors, no_factors, more_factors, Factor, number, label, brackets}

abbrev pub signed : Sign → Value → Value → Value
signed plus = both add
signed minus = both sub

abbrev pub starred : Star → Value → Value → Value
starred s = both mul

module _ (env : List ℕ → Value) where
  unfoldable mutual
    pub value_e : Expression → Value
    value_e (expression t ts) = value_ts ts (value_t t)

    pub value_ts : Terms → Value → Value
    value_ts no_terms v = v
    value_ts (more_terms s t ts) v = value_ts ts (signed s v (value_t t))

    pub value_t : Term → Value
    value_t (term f fs) = value_fs fs (value_f f)

    pub value_fs : Factors → Value → Value
    value_fs no_factors v = v
    value_fs (more_factors s f fs) v = value_fs fs (starred s v (value_f f))

    pub value_f : Factor → Value
    value_f (number w) = decimal w
    value_f (label w) = env w
    value_f (brackets e) = value_e e
