-- Each range of opcodes has its way of decoding, and what it does.
use mathlib.Core.Path.{sym, ◌∙◌}
use native.Mathlib.Omega.{arith}
use Rattle.isa.proofs.Formats.{within_true}
use Rattle.gather.proofs.Opcodes.{control_first, control_last, formed_as, code_as}
use Rattle.gather.proofs.Idle.{still_late}
use Rattle.gather.proofs.Effects.{turns, goes_ahead}
use Rattle.gather.proofs.Before.step.Goals as goal

pub decide-requires : goal.decide-requires
decide-requires c = formed_as 0 _ (omega arith) (c.still.ensures 0)

pub copies-requires-clause-formed : goal.copies-requires-clause-formed
copies-requires-clause-formed c = formed_as _ _ c.requires.c_bound c.copy.ensures

pub copies-requires-clause-room : goal.copies-requires-clause-room
copies-requires-clause-room c = (c.requires.room.0, omega (arith, code_as _ _ c.requires.c_bound c.copy.ensures ∙ sym c.opcode-o.ensures, c.if-o-le59.false, c.if-o-le60.true))

pub computes-requires-clause-formed : goal.computes-requires-clause-formed
computes-requires-clause-formed c = formed_as _ _ c.requires.c_bound c.compute.ensures

pub computes-requires-clause-room : goal.computes-requires-clause-room
computes-requires-clause-room c =
    let k = code_as _ _ c.requires.c_bound c.compute.ensures ∙ sym c.opcode-o.ensures in
    (c.requires.room.0, omega (arith, k), omega (arith, k))

pub accesses-requires-clause-formed : goal.accesses-requires-clause-formed
accesses-requires-clause-formed c = formed_as _ _ c.requires.c_bound c.access.ensures

pub accesses-requires-clause-room : goal.accesses-requires-clause-room
accesses-requires-clause-room c =
    let k = code_as _ _ c.requires.c_bound c.access.ensures ∙ sym c.opcode-o.ensures in
    (c.requires.room.0, c.requires.room.1, within_true 52 59 c.access.result.opcode (omega (arith, k)) (omega (arith, k)))

pub turns-requires-clause-formed : goal.turns-requires-clause-formed
turns-requires-clause-formed c = formed_as _ _ c.requires.c_bound c.jump.ensures

pub turns-requires-clause-turn : goal.turns-requires-clause-turn
turns-requires-clause-turn c =
    let k = code_as _ _ c.requires.c_bound c.jump.ensures ∙ sym c.opcode-o.ensures in
    control_last c.jump.result.opcode (omega (arith, k))

pub returns-then-o-eq0 : goal.returns-then-o-eq0
returns-then-o-eq0 c =
    let e = c.still.ensures c.args.c in
    let z = sym c.opcode-o.ensures ∙ c.if-o-eq0.true in
    rw (← e) (goes_ahead (still_late c.args.self.now.idle c.still.result c.args.c _ z e)
    (turns c.requires.holds (formed_as 0 _ (omega arith) (c.still.ensures 0)) (control_first _ (code_as 0 _ (omega arith) (c.still.ensures 0) ∙ z)) c.decide.ensures.same.0 c.decide.ensures.same.1 c.decide.ensures.next))
