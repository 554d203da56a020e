use Rattle.expressions.proofs.Sound.{read_sound}
use Rattle.expressions.proofs.Complete.{read_complete}
use Rattle.expressions.proofs.exact_theorems.Goals as goal

pub returns : goal.returns
returns c = record { sound = read_sound; complete = read_complete }
