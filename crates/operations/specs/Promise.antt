-- What is proved of operations.
use Rattle.std.specs.Prelude.{◌≡◌, List, ◌++◌}
use Rattle.tokens.specs.Tokens.{Token}
use Rattle.expressions.specs.Grammar.{Ends}
use Rattle.expressions.specs.Reader.{got}
use Rattle.operations.specs.Grammar.{Operation, FitsOperation, spell_operation}
use Rattle.operations.specs.Reader.{read_operation}

-- tokens that begin with an operation, whole, and what stands after it
pub record Stands (ts : List Token) (o : Operation) (rest : List Token) : Type 0 where
  pub fits : FitsOperation o
  pub spelt : ts ≡ spell_operation o ++ rest
  pub ends : Ends rest

pub record Unique : Type 0 where
  pub part : (ts : List Token) (o p : Operation) (r s : List Token) → Stands ts o r → Stands ts p s → (o ≡ p) × (r ≡ s)

-- the function that reads tokens finds exactly what the grammar derives; where an operation ends in a register, anything may follow
pub record Exact : Type 0 where
  pub sound : (ts rest : List Token) (o : Operation) → read_operation ts ≡ got o rest → FitsOperation o × (ts ≡ spell_operation o ++ rest)
  pub complete : (ts rest : List Token) (o : Operation) → Stands ts o rest → read_operation ts ≡ got o rest
