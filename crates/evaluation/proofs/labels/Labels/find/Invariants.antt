use mathlib.Core.Path.{◌≡◌}
use lib.ListN.{length, drop}
use Rattle.source.specs.Grammar.{lines_of}
use Rattle.source.specs.Walk.{start}
use Rattle.source.specs.Seek.{walk_of, seek}
use Rattle.evaluation.specs.Known.{in_table, AllSound}
use Rattle.evaluation.proofs.labels.Labels.find.Given as goal

abbrev pub invariant-loop-i : goal.invariant-loop-i
invariant-loop-i l =
    (length l.self.hashes.now ≡ length l.self.known.now) × AllSound l.self.text.now (drop l.i l.self.hashes.now) (drop l.i l.self.known.now)
    × (seek start 0 (lines_of l.self.text.now) l.name ≡ in_table l.self.text.now (drop l.i l.self.known.now) l.name (seek (walk_of l.self.walk) l.self.at (lines_of (drop l.self.at l.self.text.now)) l.name))
