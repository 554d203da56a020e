-- Written by tests/public. The promise of each public function of text admits one outcome only.
use Rattle.std.specs.Prelude.{List, length, ℕ, ◌++◌, ◌+◌, ◌≡◌, ◌≤◌}
use Rattle.arrayvec.specs.ArrayVec.{ArrayVec, array_vec_len}
use Rattle.std.proofs.lemmas.List.Edits.{sets}
use Rattle.loader.specs.declared.Answer.{Answer}
use Rattle.text.specs.Output.{shown_of}
use Rattle.text.specs.Rows.{answer_row, field, fields}
use Rattle.outcomes.specs.OneOutcome.{OneOutcome}

pub record Text : Type 0 where
  -- crates/text/src/running.rt
  pub show_one : (input : List ℕ) → OneOutcome (λ (r : ArrayVec ℕ). (r ≡ shown_of input) × (length r.items ≤ 4341))
  -- crates/text/src/rows.rt
  pub put_field_one : (out : List ℕ) (at digits v after : ℕ) → OneOutcome (λ (out' : List ℕ). out' ≡ sets out at (field digits v after))
  pub put_fields_one : (out : List ℕ) (at x digits y z : ℕ) → OneOutcome (λ (out' : List ℕ). out' ≡ sets out at (fields x digits y z))
  pub put_answer_one : (out : List ℕ) (a : Answer) → OneOutcome (λ (out' : List ℕ). out' ≡ sets out 0 (answer_row a))
  pub push_field_one : (N : ℕ) (out : ArrayVec ℕ) (digits v after : ℕ)
      → OneOutcome (λ (out' : ArrayVec ℕ).
      (out'.items ≡ out.items ++ field digits v after) × (array_vec_len out' ≡ array_vec_len out + digits + 1))
  pub push_fields_one : (N : ℕ) (out : ArrayVec ℕ) (x digits y z : ℕ)
      → OneOutcome (λ (out' : ArrayVec ℕ).
      (out'.items ≡ out.items ++ fields x digits y z) × (array_vec_len out' ≡ array_vec_len out + digits + 13))
  pub push_answer_one : (N : ℕ) (out : ArrayVec ℕ) (a : Answer)
      → OneOutcome (λ (out' : ArrayVec ℕ).
      (out'.items ≡ out.items ++ answer_row a) × (array_vec_len out' ≡ array_vec_len out + 21))
