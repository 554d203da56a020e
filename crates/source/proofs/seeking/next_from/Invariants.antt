use mathlib.Core.Path.{◌≡◌}
use mathlib.Core.Bool.{false}
use mathlib.Core.List.{map}
use Prim.Native.Nat.{◌*◌, ◌≤◌}
use lib.Dec.{eqb}
use Rattle.std.specs.Prelude.{IfSome}
use Rattle.source.specs.Labels.{next}
use Rattle.source.specs.Reader.{hear}
use Rattle.source.specs.Seek.{walk_of, hear_from}
use Rattle.source.specs.Each.{left}
use Rattle.source.proofs.seeking.next_from.Given as goal

abbrev pub invariant-loop-l : goal.invariant-loop-l
invariant-loop-l l =
    (l.l-iterator.text.now ≡ l.text) × IfSome l.l-iterator.next (λ at. l.v.count ≤ at * 2) × (eqb l.v.opened 0 ≡ false)
    × (next (walk_of l.fn.w) (hear_from l.text l.from) ≡ next (walk_of l.v) (map hear (left l.l-iterator)))
