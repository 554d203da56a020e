-- All are left.
use native.Mathlib.Omega.{arith}
use Rattle.std.proofs.Common.{sym, ◌∙◌}
use Rattle.machine.specs.State.{registers_of}
use Rattle.machine.proofs.Arrays.{registers_of_length, put_more}
use Rattle.ticks.proofs.Cells.{views_same}
use Rattle.ticks.specs.Ticks.{register_at, view_of}
use Rattle.ticks.proofs.Registers.leave.Goals as goal

pub loop-r-preserved : goal.loop-r-preserved
loop-r-preserved c =
    let i = c.loop-r.invariant in
    let r = c.loop-r.r in
    let a = c.put.ensures.at in (
      c.put.ensures.sized,
      a.0 ∙ i.1,
      a.1 ∙ i.2,
      put_more (λ k. view_of c.args.t.0 (register_at c.args.self.now.all k)) (registers_of c.loop-r.s) (registers_of c.put.new.self) r _
          (omega (arith, registers_of_length i.0)) c.left.ensures c.put.ensures.registers i.3,
    )

pub returns-clause-is : goal.returns-clause-is
returns-clause-is c =
    let i = c.loop-r.invariant in
    sym (views_same c.args.t.0 c.args.self.now.all (registers_of c.loop-r.s) c.requires.size (registers_of_length i.0) (λ k h. i.3 k (omega arith)))
