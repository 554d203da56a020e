-- Opcode 0 is of one form in every cluster.
use native.Mathlib.Omega.{arith}
use Rattle.isa.specs.declared.Format.TheVariants.{Still}
use Rattle.isa.proofs.Arms.{as_form, way_of_lem}
use Rattle.isa.proofs.decode.still.Goals as goal

pub returns : goal.returns
returns c = λ k. as_form k _ Still _ (omega arith) (rw (c.still.ensures, way_of_lem c.args.s Still c.requires, c.opcode.ensures))
