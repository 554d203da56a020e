-- The cluster of the source is in bits 1..0.
use native.Mathlib.Omega.{arith}
use Rattle.isa.specs.declared.Format.TheVariants.{Copy}
use Rattle.isa.proofs.Arms.{as_form, fields}
use Rattle.isa.proofs.decode.copy.Goals as goal

pub returns : goal.returns
returns c = as_form _ _ Copy _ (omega arith) (search fields)
