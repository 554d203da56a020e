-- What a walk from spot to spot has left.
use Rattle.std.specs.Prelude.{List}
use Rattle.word.specs.Bytes.{words}
use Rattle.isa.specs.Program.{spots_from}
use Rattle.isa.specs.declared.Spot.{Spot}
use Rattle.isa.specs.declared.walk.Walk.{Walk}

abbrev pub spots_left : Walk → List Spot
spots_left s = spots_from s.before.last s.before.opened (words s.left.now)
