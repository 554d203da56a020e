-- Opcode 23, or one of 19 to 22.
use native.Mathlib.Omega.{arith}
use Rattle.isa.specs.declared.Format.TheVariants.{One, Carry}
use Rattle.isa.proofs.Arms.{as_form, fields}
use Rattle.isa.proofs.decode.narrow.Goals as goal

pub returns-then-op-eq23 : goal.returns-then-op-eq23
returns-then-op-eq23 c = as_form _ _ Carry _ (omega arith) (search fields)

pub returns-else-op-eq23 : goal.returns-else-op-eq23
returns-else-op-eq23 c = as_form _ _ One _ (omega arith, omega arith) (search fields)
