use Rattle.tokens.proofs.Ways.{only, written}
use Rattle.tokens.proofs.token_theorems.Goals as goal

pub returns : goal.returns
returns c = record { every = written; only = only }
