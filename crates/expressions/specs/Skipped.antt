-- Private to the code, nobody has to believe it: where an expression ends.
use Rattle.std.specs.Prelude.{Bool, ◌||◌, List, ℕ, ◌≤◌, ◌<◌, eqb, length, drop, Option, Some, None}
use Rattle.tokens.specs.Tokens.{tokens}
use Rattle.expressions.specs.Grammar.{is_number, is_label}
use Rattle.expressions.specs.Reader.{Got, bad, got}

-- nothing, or the tokens after the place
abbrev pub passed : List ℕ → Option ℕ → Got (Unit {0})
passed line None = bad
passed line (Some n) = got tt (tokens (drop n line))

abbrev pub Within : List ℕ → ℕ → Option ℕ → Type 0
Within line at None = Unit {0}
Within line at (Some n) = (at < n) × (n ≤ length line)

-- a word that is a factor, and a byte that is an operator
abbrev pub is_factor : List ℕ → Bool
is_factor w = is_number w || is_label w

abbrev pub is_operator : ℕ → Bool
is_operator b = eqb b 43 || eqb b 45 || eqb b 42
