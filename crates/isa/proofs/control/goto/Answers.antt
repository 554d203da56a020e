-- The target has 24 bits.
use Rattle.isa.specs.declared.Format.TheVariants.{Jump}
use Rattle.isa.proofs.Arms.{as_way}
use Rattle.isa.proofs.control.goto.Goals as goal

pub returns : goal.returns
returns c = as_way _ Jump _ c.requires (rw c.bits.ensures)
