-- An access that goes to memory is held as a store.
use mathlib.Core.Path.{sym, ◌∙◌}
use Rattle.memory.proofs.Accesses.{access_within}
use Rattle.gather.proofs.Effects.{lays}
use Rattle.gather.proofs.Before.access.Goals as goal

pub returns-else-op-le56 : goal.returns-else-op-le56
returns-else-op-le56 c =
    let to = c.in-Ok.ensures ∙ rw (c.size-n.ensures.is, c.address.ensures) in
    let w = access_within _ c.size-n.ensures.width (sym c.in-Ok.ensures) in
    lays c.requires.holds c.requires.formed c.requires.room.2 to c.size-n.ensures.is c.if-op-le56.false w c.requires.room.1 c.store.ensures.is c.store.ensures.results
