use Rattle.operations.proofs.Sound.{operation_sound}
use Rattle.operations.proofs.Complete.{operation_complete}
use Rattle.operations.proofs.exact_theorems.Goals as goal

pub returns : goal.returns
returns c = record { sound = operation_sound; complete = operation_complete }
