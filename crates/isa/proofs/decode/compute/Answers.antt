-- Outside 19 to 23 the forms stand in the order of the opcodes.
use mathlib.Core.Path.{sym, ◌∙◌}
use native.Mathlib.Omega.{arith}
use Rattle.isa.specs.declared.Format.TheVariants.{Two, Test, Select}
use Rattle.isa.proofs.Formats.{among_two}
use Rattle.isa.proofs.Arms.{as_form, fields}
use Rattle.isa.proofs.decode.compute.Goals as goal

pub returns-in-0-to-39 : goal.returns-in-0-to-39
returns-in-0-to-39 c =
    as_form _ _ Two _ (among_two _ (omega arith) (omega arith) (rw c.opcode-o.ensures at (sym c.within.ensures ∙ c.if-within.false))) (search fields)

pub returns-in-0-to-49 : goal.returns-in-0-to-49
returns-in-0-to-49 c = as_form _ _ Test _ (omega arith, omega arith) (search fields)

pub returns-in_default : goal.returns-in_default
returns-in_default c = as_form _ _ Select _ (omega arith, omega arith) (search fields)
