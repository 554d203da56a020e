-- Written by tests/public. The promise of each public function of gather admits one outcome only.
use Rattle.std.specs.Prelude.{List, [], ◌++◌, ◌∷◌, ◌≡◌}
use Rattle.memory.specs.declared.Store.{Store}
use Rattle.ticks.specs.declared.Made.{Made}
use Rattle.gather.specs.declared.Scratch.{Scratch}
use Rattle.outcomes.specs.OneOutcome.{OneOutcome}

pub record Gather : Type 0 where
  -- crates/gather/src/lib.rt
  pub scratch_new_one : OneOutcome (λ (r : Scratch). (r.results ≡ []) × (r.stores ≡ []))
  pub scratch_results_one : (self : Scratch) → OneOutcome (λ (r : List Made). r ≡ self.results)
  pub scratch_stores_one : (self : Scratch) → OneOutcome (λ (r : List Store). r ≡ self.stores)
  pub scratch_note_one : (self : Scratch) (m : Made)
      → OneOutcome (λ (self' : Scratch).
      (self'.results ≡ self.results ++ m ∷ []) × (self'.stores ≡ self.stores))
  pub scratch_note_store_one : (self : Scratch) (s : Store)
      → OneOutcome (λ (self' : Scratch).
      (self'.stores ≡ self.stores ++ s ∷ []) × (self'.results ≡ self.results))
