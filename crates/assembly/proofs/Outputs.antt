-- Laws of the whole output.
use mathlib.Core.Path.{◌≡◌, ap}
use mathlib.Core.List.{List}
use Prim.Native.Nat.{ℕ, ◌≤◌, ◌<◌}
use lib.ListN.{length, replicate}
use borrow.Author.Tests.{lt-ltb, le-ltb}
use Rattle.arrayvec.specs.ArrayVec.{ArrayVec}
use Rattle.loader.specs.Answer.{answer}
use Rattle.assembler.specs.Answer.{Outcome, assemble_outcome}
use Rattle.text.specs.Rows.{answer_row}
use Rattle.assembly.specs.Printed.{printed_by, printed, printed_in}

abbrev zeros : ℕ → List ℕ
zeros n = replicate n 0

pub as_printed : (v : ArrayVec ℕ) (text : List ℕ) → v.items ≡ printed text → v ≡ printed_in text
as_printed v text e = λ i. record { items = e i }

module _ (text : List ℕ) where
  pub too_long : 262144 < length text → answer_row (answer 16 0 0) ≡ printed text
  unfolding printed
  too_long h = rw (lt-ltb 262144 (length text) h)

  pub as_assembled : {o : Outcome} → length text ≤ 262144 → o ≡ assemble_outcome text (zeros 16384) (zeros 12) → printed_by o ≡ printed text
  unfolding printed
  as_assembled h e = rw (le-ltb 262144 (length text) h) (ap printed_by e)
