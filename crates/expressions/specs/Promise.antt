-- What is proved of expressions.
use Rattle.std.specs.Prelude.{◌≡◌, List, ℕ}
use Rattle.tokens.specs.Tokens.{Token}
use Rattle.expressions.specs.Grammar.{Expression, Stands}
use Rattle.expressions.specs.Reader.{got, read_e}

-- "the reading is unique": where an expression stands, whole, it is one tree, and it ends in one place
pub record Unique : Type 0 where
  pub part : (d : ℕ) (ts : List Token) (e f : Expression) (r s : List Token) → Stands d ts e r → Stands d ts f s → (e ≡ f) × (r ≡ s)

-- the function that reads tokens finds exactly what the grammar derives
pub record Exact : Type 0 where
  pub sound : (d : ℕ) (ts rest : List Token) (e : Expression) → read_e d ts ≡ got e rest → Stands d ts e rest
  pub complete : (d : ℕ) (ts rest : List Token) (e : Expression) → Stands d ts e rest → read_e d ts ≡ got e rest
