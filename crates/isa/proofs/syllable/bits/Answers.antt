-- The shift and the mask are those of `field`.
use Rattle.isa.proofs.Masks.{field}
use Rattle.isa.proofs.syllable.bits.Goals as goal

pub returns : goal.returns
returns c = field _ _ _ c.requires.0 c.requires.1
