-- Laws of the whole output.
use mathlib.Core.Path.{◌≡◌, refl, sym, ap, ◌∙◌}
use mathlib.Core.Bool.{true, false, ◌||◌}
use lib.Dec.{eqb}
use mathlib.Core.List.{List, [], ◌∷◌, ◌++◌, append-nil}
use Prim.Native.Nat.{ℕ, zero, suc, ◌≤◌, ◌<◌}
use native.Mathlib.Omega.{arith}
use lib.ListN.{length, take, replicate}
use borrow.Author.Tests.{lt-ltb, le-ltb}
use Rattle.std.specs.Prelude.{Ok, Err}
use Rattle.arrayvec.specs.ArrayVec.{ArrayVec}
use Rattle.call.specs.Run.{Call, Outcome, run_outcome}
use Rattle.lines.specs.declared.reading.BadLine.{BadLine}
use Rattle.lines.specs.declared.reading.Text.{Text}
use Rattle.lines.specs.Lines as lines
use Rattle.lines.specs.Lines.{newline, pieces, first_line, Read, Good, from_first, read_text}
use Rattle.lines.specs.Items.{reading_of}
use Rattle.text.specs.Output.{Ending, Unread, Runs, ending_answer, ending_rows, Loads, said_in, call_of, too_much, ending_of, printed_of, printed, shown_of}
use Rattle.text.specs.Rows.{answer_row, register_rows}

-- ---- line 1, and the rows after it

-- the first that is put
pub first_put : {before row after : List ℕ} → before ≡ [] → after ≡ before ++ row → after ≡ row
first_put e f = rw e at f

module _ (e : Ending) {first : List ℕ} (f : first ≡ answer_row (ending_answer e)) where
  pub alone : ending_rows e ≡ [] → first ≡ printed_of e
  unfolding printed_of
  alone h = f ∙ rw (h, append-nil)

  pub followed_by : {all rows : List ℕ} → all ≡ first ++ rows → ending_rows e ≡ rows → all ≡ printed_of e
  unfolding printed_of
  followed_by g h = g ∙ rw (f, h)

-- a run that paused or stopped, and another
module _ (o : Outcome) where
  pub with_registers : eqb o.result 0 || eqb o.result 255 ≡ true → ending_rows (Runs o) ≡ register_rows o.state
  with_registers e = rw e

  pub without_registers : eqb o.result 0 || eqb o.result 255 ≡ false → ending_rows (Runs o) ≡ []
  without_registers e = rw e

pub as_shown : (v : ArrayVec ℕ) (text : List ℕ) → v.items ≡ printed text → v ≡ shown_of text
as_shown v text e = λ i. record { items = e i }

-- ---- zeros

abbrev zeros : ℕ → List ℕ
zeros n = replicate n 0

take_zeros : (m n : ℕ) → m ≤ n → take m (zeros n) ≡ zeros m
take_zeros zero n h = refl
take_zeros (suc m) zero h = absurd (omega arith)
take_zeros (suc m) (suc n) h = ap (λ (l : List ℕ). 0 ∷ l) (take_zeros m n (omega arith))

-- the call of a run, as its arrays hold it
pub as_call : (table program : List ℕ) (memory n : ℕ) → memory ≤ 16384
    → (let c : Call = record { table = table; program = program; state = zeros 2888; memory = take memory (zeros 16384); landing = []; n = n; room = zeros 12 } in
    c ≡ call_of (record { table = table; memory = memory; n = n; program = program }))
as_call table program memory n h =
    let e : take memory (zeros 16384) ≡ zeros memory = take_zeros memory 16384 h in
    λ k. record { table = table; program = program; state = zeros 2888; memory = e k; landing = []; n = n; room = zeros 12 }

-- what a run left, printed
pub as_run : {items : List ℕ} (number : ℕ) (image memory room : List ℕ) {c d : Call}
    → (let o : Outcome = record { result = number; state = image; memory = memory; room = room } in o ≡ run_outcome c) → c ≡ d
    → items ≡ printed_of (Runs (record { result = number; state = image; memory = []; room = room }))
    → items ≡ printed_of (Runs (run_outcome d))
unfolding printed_of
as_run number image memory room e f h = h ∙ ap (λ (o : Outcome). printed_of (Runs o)) (e ∙ ap run_outcome f)

-- ---- what reading found

module _ (text : List ℕ) where
  pub too_long : 32768 < length text → printed text ≡ printed_of (Unread 0)
  unfolding printed read_text
  too_long h = rw (lt-ltb 32768 (length text) h)

  as_read : length text ≤ 32768 → printed text ≡ printed_of (ending_of (from_first (first_line 2 (pieces newline text))))
  unfolding printed read_text
  as_read h = rw (le-ltb 32768 (length text) h)

  by_line : (r : Read) (e : BadLine) → Err e ≡ reading_of r → r ≡ lines.Bad e.0
  by_line (lines.Bad i) e f = cc
  by_line (Good s) e f = cc

  by_text : (r : Read) (t : Text) → Ok t ≡ reading_of r
      → r ≡ Good (said_in t)
  by_text (lines.Bad i) t f = cc
  by_text (Good s) t f =
      let e : t ≡ record { table = record { items = s.table }; memory = s.memory; n = s.n; program = record { items = s.program } } = cc in
      ap (λ (u : Text). Good (said_in u)) (sym e)

  pub bad_line : (e : BadLine) → length text ≤ 32768 → Err e ≡ reading_of (from_first (first_line 2 (pieces newline text)))
      → printed text ≡ printed_of (Unread e.0)
  bad_line e h f = as_read h ∙ ap (λ (r : Read). printed_of (ending_of r)) (by_line (from_first (first_line 2 (pieces newline text))) e f)

  good_text : (t : Text) → length text ≤ 32768 → Ok t ≡ reading_of (from_first (first_line 2 (pieces newline text)))
      → printed text ≡ printed_of (ending_of (Good (said_in t)))
  good_text t h f = as_read h ∙ ap (λ (r : Read). printed_of (ending_of r)) (by_text (from_first (first_line 2 (pieces newline text))) t f)

  module _ (t : Text) (h : length text ≤ 32768) (f : Ok t ≡ reading_of (from_first (first_line 2 (pieces newline text)))) where
    pub refused_text : 16384 < t.memory → printed text ≡ printed_of (Loads (too_much t.table.items t.program.items))
    refused_text m = rw (lt-ltb 16384 t.memory m) at (good_text t h f)

    pub run_text : t.memory ≤ 16384 → printed text ≡ printed_of (Runs (run_outcome (call_of (said_in t))))
    run_text m = rw (le-ltb 16384 t.memory m) at (good_text t h f)
