-- Format by format, as a law of the fields.
use Rattle.zero.proofs.Rebuilt.{rebuilds}
use Rattle.zero.proofs.rebuilds.Goals as goal

pub returns : goal.returns
returns c = rebuilds
