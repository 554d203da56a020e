use mathlib.Core.Path.{◌≡◌}
use mathlib.Core.Bool.{true}
use Prim.Native.Nat.{◌^◌, ◌≤◌, ◌<◌}
use lib.ListN.{length, take}
use Rattle.lines.specs.Digits.{is_digit, number_of}
use Rattle.lines.specs.Lines.{every}
use Rattle.lines.proofs.items.number_of.Given as goal

abbrev pub invariant-loop-b : goal.invariant-loop-b
invariant-loop-b l =
    (length l.digits ≤ 8) × (l.v ≡ number_of (take l.b-index l.digits)) × (every is_digit (take l.b-index l.digits) ≡ true) × (l.v < 16 ^ l.b-index)
