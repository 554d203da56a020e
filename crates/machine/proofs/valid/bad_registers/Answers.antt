-- One register after the other is tested.
use native.Mathlib.Omega.{arith}
use Rattle.std.proofs.Common.{ap, ◌∙◌}
use Prim.Native.Nat.{ℕ}
use mathlib.Core.Bool.{Bool}
use Rattle.vliw.specs.Cell.{Registers, at}
use Rattle.machine.specs.State.{registers_of}
use Rattle.machine.specs.Valid.{bad_register}
use Rattle.machine.proofs.Validity.{any_more, any_done}
use Rattle.machine.proofs.valid.bad_registers.Goals as goal

abbrev bad_at : Registers → ℕ → Bool
bad_at l r = bad_register r (at l r)

pub loop-r-preserved : goal.loop-r-preserved
loop-r-preserved c =
    any_more (bad_at (registers_of c.args.s.now)) c.loop-r.r (c.breaks-broken.ensures ∙ ap (bad_register c.loop-r.r) c.register.ensures) c.loop-r.invariant

pub loop-r-2-init : goal.loop-r-2-init
loop-r-2-init c = any_done (bad_at (registers_of c.args.s.now)) c.loop-r.r 256 (omega arith) c.loop-r.invariant

pub loop-r-2-preserved : goal.loop-r-2-preserved
loop-r-2-preserved c =
    any_more (bad_at (registers_of c.args.s.now)) c.loop-r-2.r (c.breaks-broken-in-loop-r-2.ensures ∙ ap (bad_register c.loop-r-2.r) c.register-in-loop-r-2.ensures) c.loop-r-2.invariant

pub returns : goal.returns
returns c = any_done (bad_at (registers_of c.args.s.now)) c.loop-r-2.r 288 (omega arith) c.loop-r-2.invariant
