-- br is wanted on 1, brf on 0.
use Rattle.isa.specs.declared.Format.TheVariants.{Fork}
use Rattle.isa.proofs.Arms.{as_way}
use Rattle.isa.proofs.control.fork.Goals as goal

pub returns : goal.returns
returns c = as_way _ Fork _ c.requires (rw (c.bits.ensures, c.opcode.ensures))
