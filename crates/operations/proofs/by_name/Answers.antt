use mathlib.Core.Path.{refl}
use Rattle.operations.specs.Code.{text}
use Rattle.operations.proofs.by_name.Goals as goal

pub looked_up-requires : goal.looked_up-requires
unfolding text
looked_up-requires c = (refl, c.requires.0, c.requires.1)
