use mathlib.Core.Path.{◌≡◌}
use mathlib.Core.List.{map}
use lib.ListN.{take}
use Rattle.word.specs.Bytes.{words}
use Rattle.isa.specs.Program.{spots, spot_before, operation}
use Rattle.gather.specs.Gather.{op_late, fire_at, Gathered}
use Rattle.gather.proofs.Before.collect.Given as goal

abbrev pub invariant-loop-j : goal.invariant-loop-j
invariant-loop-j l =
    record { clusters : l.clusters ≡ (spot_before (words l.stretch) l.j).opened; gathered : Gathered (op_late l.self.t.0 l.self.registers.now.all) (fire_at l.self.registers.now.all) l.self.delays l.self.memory.now l.self.end.0 (map operation (take l.j (spots (words l.stretch)))) l.s l.scratch }
