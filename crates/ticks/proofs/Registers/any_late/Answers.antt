-- None is busy where time has come to `free`; else each is asked.
use Rattle.std.proofs.Common.{sym, ◌∙◌}
use native.Mathlib.Omega.{arith}
use borrow.Author.Tests.{le-ltb}
use Rattle.ticks.proofs.Busy.{busy_any, busy_none}
use Rattle.ticks.proofs.Registers.any_late.Goals as goal

pub returns-then-t-free : goal.returns-then-t-free
returns-then-t-free c = c.any_ready_after.ensures ∙ busy_any c.args.t.0 c.args.self.now.all (omega arith)

pub returns-else-t-free : goal.returns-else-t-free
returns-else-t-free c =
    rw (le-ltb c.args.t.0 c.args.free.0 c.if-t-free.false) (sym (busy_none c.args.t.0 c.args.free.0 c.args.self.now.all c.requires c.if-t-free.false))
