-- Loads and stores, by the opcode.
use native.Mathlib.Omega.{arith}
use Rattle.isa.specs.declared.Format.TheVariants.{Load, Store}
use Rattle.isa.proofs.Arms.{as_form, fields}
use Rattle.isa.proofs.decode.access.Goals as goal

pub returns-then-op-le56 : goal.returns-then-op-le56
returns-then-op-le56 c = as_form _ _ Load _ (omega arith, omega arith) (search fields)

pub returns-else-op-le56 : goal.returns-else-op-le56
returns-else-op-le56 c = as_form _ _ Store _ (omega arith, omega arith) (search fields)
