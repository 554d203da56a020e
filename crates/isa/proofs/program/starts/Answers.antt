-- The sentences on starts, as laws of the walk.
use Rattle.isa.proofs.Instructions.{starts}
use Rattle.isa.proofs.program.starts.Goals as goal

pub returns : goal.returns
returns c = starts
