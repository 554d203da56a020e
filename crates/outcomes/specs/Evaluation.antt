-- Written by tests/public. The promise of each public function of evaluation admits one outcome only.
use Rattle.std.specs.Prelude.{List, Option, Result, ℕ, ◌≡◌}
use Rattle.values.specs.declared.Fault.{Fault}
use Rattle.operations.specs.Meaning.{syllable_of}
use Rattle.operations.specs.Parsed.{said_by}
use Rattle.operations.specs.declared.Operation.{Operation}
use Rattle.source.specs.Grammar.{lines_of}
use Rattle.source.specs.Seek.{seek}
use Rattle.source.specs.Walk.{start}
use Rattle.source.specs.declared.seeking.Given.{Given}
use Rattle.evaluation.specs.Evaluated.{Below, labels_of}
use Rattle.evaluation.specs.Known.{hash_of}
use Rattle.evaluation.specs.declared.labels.Labels.{Labels}
use Rattle.outcomes.specs.OneOutcome.{OneOutcome}

pub record Evaluation : Type 0 where
  -- crates/evaluation/src/labels.rt
  pub labels_find_one : (self : Labels) (name : List ℕ) → OneOutcome (λ (r : Option Given). r ≡ seek start 0 (lines_of self.text.now) name)
  pub labels_value_one : (self : Labels) (name : List ℕ) → OneOutcome (λ (r : Result ℕ Fault). r ≡ labels_of self.text.now name)
  pub hash_one : (name : List ℕ) → OneOutcome (λ (r : ℕ). r ≡ hash_of name)
  -- crates/evaluation/src/syllables.rt
  pub syllable_one : (line : List ℕ) (o : Operation) (labels : Labels)
      → OneOutcome (λ (r : Result ℕ Fault).
      (r ≡ syllable_of (labels_of labels.text.now) (said_by line o)) × Below r)
