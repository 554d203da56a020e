-- The invariant: the registers so far are the image's.
use Rattle.std.proofs.Common.{◌≡◌, ℕ, ◌<◌}
use Rattle.vliw.specs.Cell.{at}
use Rattle.machine.specs.Image.{place_in, link_in, cell_in}
use Rattle.machine.specs.State.{registers_of, Sized}
use Rattle.machine.proofs.image.read.Given as goal

abbrev pub invariant-loop-r : goal.invariant-loop-r
invariant-loop-r l =
    Sized l.s × (l.s.place.0 ≡ place_in l.image) × (l.s.link.0 ≡ link_in l.image)
    × ((k : ℕ) → k < l.r → cell_in l.image k ≡ at (registers_of l.s) k)
