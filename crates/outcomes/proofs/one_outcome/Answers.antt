use Rattle.outcomes.proofs.Public.{public}
use Rattle.outcomes.proofs.one_outcome.Goals as goal

pub returns : goal.returns
returns c = public
