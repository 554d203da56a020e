-- What is proved of tokens: every line is written in one way.
use Rattle.std.specs.Prelude.{◌≡◌, List, ℕ}
use Rattle.tokens.specs.Tokens.{Token, tokens}
use Rattle.tokens.specs.Written.{Written}

pub record OneWay : Type 0 where
  pub every : (s : List ℕ) → Written (tokens s) s
  pub only : {ts : List Token} {s : List ℕ} → Written ts s → ts ≡ tokens s
