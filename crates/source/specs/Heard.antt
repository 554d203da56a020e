-- What a line says: the label that it gives, its operation, and whether it ends the instruction.
use Rattle.std.specs.Prelude.{Bool, List, ℕ}
use Rattle.std.proofs.Math.Option.{Option, none, some}
use Rattle.operations.specs.Grammar.{Operation}
use Rattle.operations.specs.Meaning.{Said, said}
use Rattle.source.specs.Grammar.{Reading, read, unread as unreadable}

pub data Heard : Type 0 where
  says : Option (List ℕ) → Option Said → Bool → Heard
  -- a line that is not as it should be: "nothing counts but a label"
  unread : Option (List ℕ) → Heard

abbrev pub said_of : Option Operation → Option Said
said_of none = none
said_of (some o) = some (said o)

abbrev pub heard : Reading → Heard
heard (read l) = says l.given (said_of l.operation) l.ends
heard (unreadable given) = unread given
