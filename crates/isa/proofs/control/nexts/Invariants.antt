use mathlib.Core.Path.{◌≡◌}
use mathlib.Core.List.{map}
use Rattle.word.specs.Bytes.{words}
use Rattle.isa.specs.Program.{spots, operation}
use Rattle.isa.specs.Touch.{nexts}
use Rattle.isa.specs.Walk.{spots_left}
use Rattle.isa.proofs.control.nexts.Given as goal

abbrev pub invariant-loop-x : goal.invariant-loop-x
invariant-loop-x l =
    nexts l.j.0 (map operation (spots_left l.x-iterator)) ≡ nexts l.j.0 (map operation (spots (words l.stretch)))
