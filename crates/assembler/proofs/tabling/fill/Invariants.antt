use mathlib.Core.Path.{◌≡◌}
use Rattle.assembler.proofs.Tables.{Upto}
use Rattle.assembler.proofs.tabling.fill.Given as goal

abbrev pub invariant-loop-place : goal.invariant-loop-place
invariant-loop-place l = (l.place-iterator.text.now ≡ l.text) × Upto l.text l.hashes.items l.known.items l.place-iterator.next l.w
