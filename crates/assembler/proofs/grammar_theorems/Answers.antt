use Rattle.assembler.proofs.Grammars.{outcome}
use Rattle.assembler.proofs.grammar_theorems.Goals as goal

pub returns : goal.returns
returns c = record { outcome = outcome }
