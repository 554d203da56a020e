-- A register of either bank.
use native.Mathlib.Omega.{arith}
use Rattle.std.proofs.Common.{refl}
use Rattle.machine.proofs.Arrays.{register_general, register_branch}
use Rattle.machine.specs.State.{Sized}
use Rattle.machine.proofs.State.register.Goals as goal

pub returns-then-r-lt256 : goal.returns-then-r-lt256
returns-then-r-lt256 c =
    let z : Sized c.args.self.now = omega arith in
    register_general c.args.self.now z c.args.r c.if-r-lt256.true

pub returns-else-r-lt256 : goal.returns-else-r-lt256
returns-else-r-lt256 c =
    let z : Sized c.args.self.now = omega arith in
    register_branch c.args.self.now z c.args.r _ refl (omega (arith, c.if-r-lt256.false)) c.requires
