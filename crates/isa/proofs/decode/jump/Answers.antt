-- A goto, or a branch on a condition.
use mathlib.Core.Path.{sym, ◌∙◌}
use native.Mathlib.Omega.{arith}
use Rattle.isa.specs.declared.Format.TheVariants.{Jump, Fork}
use Rattle.isa.proofs.Arms.{as_form, way_of_lem}
use Rattle.isa.proofs.decode.jump.Goals as goal

pub returns-in-61 : goal.returns-in-61
returns-in-61 c =
    as_form _ c.args.s Jump _ (omega arith) (rw (c.goto.ensures, way_of_lem c.args.s Jump (omega arith), sym c.opcode.ensures ∙ c.in-61.is))

pub returns-in_default : goal.returns-in_default
returns-in_default c =
    as_form _ c.args.s Fork _ (omega arith) (rw (c.fork.ensures, way_of_lem c.args.s Fork (omega arith), c.branch_at.ensures, c.opcode.ensures))
