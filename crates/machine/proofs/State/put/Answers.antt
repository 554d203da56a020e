-- A register of either bank.
use native.Mathlib.Omega.{arith}
use Rattle.std.proofs.Common.{refl}
use Rattle.machine.proofs.Arrays.{put_general, put_branch}
use Rattle.machine.specs.State.{Sized}
use Rattle.machine.proofs.State.put.Goals as goal

pub returns-then-r-lt256-clause-registers : goal.returns-then-r-lt256-clause-registers
returns-then-r-lt256-clause-registers c =
    let z : Sized c.args.self.now = omega arith in
    put_general c.args.self.now z c.args.r _ _ _ _ c.if-r-lt256.true

pub returns-else-r-lt256-clause-registers : goal.returns-else-r-lt256-clause-registers
returns-else-r-lt256-clause-registers c =
    let z : Sized c.args.self.now = omega arith in
    put_branch c.args.self.now z c.args.r _ _ _ _ _ refl (omega (arith, c.if-r-lt256.false))
