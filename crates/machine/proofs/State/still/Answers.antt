-- Each array is all zero.
use Rattle.machine.proofs.Arrays.{still_at}
use Rattle.machine.proofs.State.still.Goals as goal

pub returns-clause-registers : goal.returns-clause-registers
returns-clause-registers c = still_at c.args.place c.args.link
