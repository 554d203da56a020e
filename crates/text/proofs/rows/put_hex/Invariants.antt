use mathlib.Core.Path.{◌≡◌}
use Prim.Native.Nat.{◌+◌, ◌≤◌}
use lib.ListN.{length}
use lib.Seq.{sets}
use Rattle.lines.specs.Digits.{hex}
use Rattle.text.proofs.rows.put_hex.Given as goal

abbrev pub invariant-loop-left : goal.invariant-loop-left
invariant-loop-left l = (l.left ≤ l.digits) × (length l.out ≡ length l.initial.out) × (l.at + l.digits ≤ length l.initial.out) × (sets l.out l.at (hex l.left l.high) ≡ sets l.initial.out l.at (hex l.digits l.v))

abbrev pub decreases-loop-left : goal.decreases-loop-left
decreases-loop-left l = l.left
