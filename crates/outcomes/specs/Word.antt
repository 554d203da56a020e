-- Written by tests/public. The promise of each public function of word admits one outcome only.
use Rattle.std.specs.Prelude.{List, ℕ, ◌%◌, ◌<◌, ◌^◌, ◌≡◌}
use Rattle.word.specs.Bytes.{number_at, put_number, put_word, word_at}
use Rattle.word.specs.Widen.{widen}
use Rattle.outcomes.specs.OneOutcome.{OneOutcome}

pub record Word : Type 0 where
  -- crates/word/src/number.rt
  pub byte_at_one : (l : List ℕ) (at : ℕ) → OneOutcome (λ (r : ℕ). (r ≡ number_at 1 at l) × (r < 256))
  pub half_at_one : (l : List ℕ) (at : ℕ) → OneOutcome (λ (r : ℕ). (r ≡ number_at 2 at l) × (r < 65536))
  pub word_at_one : (l : List ℕ) (at : ℕ) → OneOutcome (λ (r : ℕ). r ≡ word_at at l)
  pub put_byte_one : (l : List ℕ) (at v : ℕ) → OneOutcome (λ (l' : List ℕ). l' ≡ put_number 1 at v l)
  pub put_half_one : (l : List ℕ) (at v : ℕ) → OneOutcome (λ (l' : List ℕ). l' ≡ put_number 2 at v l)
  pub put_word_one : (l : List ℕ) (at w : ℕ) → OneOutcome (λ (l' : List ℕ). l' ≡ put_word at w l)
  -- crates/word/src/field.rt
  pub low_one : (K x : ℕ) → OneOutcome (λ (r : ℕ). r ≡ x % 2 ^ K)
  pub widen_one : (K x : ℕ) → OneOutcome (λ (r : ℕ). r ≡ widen K x)
