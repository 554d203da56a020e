-- Opcodes 1 to 60 go along.
use mathlib.Core.Path.{sym}
use native.Mathlib.Omega.{arith}
use Rattle.isa.proofs.Ways.{way_along}
use Rattle.isa.proofs.control.way.Goals as goal

pub returns-in-1-to-60 : goal.returns-in-1-to-60
returns-in-1-to-60 c = sym (way_along c.args.s (omega (arith, c.opcode.ensures)) (omega (arith, c.opcode.ensures)))
