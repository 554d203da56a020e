use mathlib.Core.Path.{◌≡◌}
use Prim.Native.Nat.{◌*◌, ◌≤◌}
use lib.ListN.{drop}
use Rattle.std.specs.Prelude.{IfSome}
use Rattle.source.specs.Grammar.{lines_of}
use Rattle.source.specs.Seek.{walk_of, seek}
use Rattle.source.proofs.Places.{seek_from}
use Rattle.source.proofs.seeking.search.Given as goal

abbrev pub invariant-loop-place : goal.invariant-loop-place
invariant-loop-place l =
    (l.place-iterator.text.now ≡ l.text) × IfSome l.place-iterator.next (λ at. l.v.count ≤ at * 2)
    × (seek (walk_of l.fn.w) l.from (lines_of (drop l.from l.text)) l.name ≡ seek_from (walk_of l.v) l.text l.place-iterator.next l.name)
