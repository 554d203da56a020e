-- Only opcode 23 has a carry.
use mathlib.Core.Path.{sym, ◌∙◌}
use Rattle.isa.proofs.Written.{carry_at, carry_none}
use Rattle.isa.proofs.decode.carried.Goals as goal

pub returns-then-opcode-eq23 : goal.returns-then-opcode-eq23
returns-then-opcode-eq23 c =
    c.branch_at.ensures ∙ sym (carry_at c.args.c c.args.s (sym c.opcode.ensures ∙ c.if-opcode-eq23.true))

pub returns-else-opcode-eq23 : goal.returns-else-opcode-eq23
returns-else-opcode-eq23 c = sym (carry_none c.args.c c.args.s (λ k. c.if-opcode-eq23.false (c.opcode.ensures ∙ k)))
