-- Written by tests/public. The promise of each public function of memory admits one outcome only.
use Rattle.std.specs.Prelude.{Bool, List, Result, ℕ, ◌≡◌}
use Rattle.word.specs.Bytes.{number_at}
use Rattle.vliw.specs.Machine.{stores as stored}
use Rattle.vliw.specs.declared.Fault.{Fault}
use Rattle.ops.specs.Value.{loaded}
use Rattle.memory.specs.Held.{Width}
use Rattle.memory.specs.Memory.{access, any_share, size_of, store}
use Rattle.memory.specs.declared.Store.{Store}
use Rattle.outcomes.specs.OneOutcome.{OneOutcome}

pub record Memory : Type 0 where
  -- crates/memory/src/lib.rt
  pub size_one : (opcode : ℕ) → OneOutcome (λ (r : ℕ). (r ≡ size_of opcode) × (Width r))
  pub access_at_one : (length size address : ℕ) → OneOutcome (λ (r : Result ℕ Fault). r ≡ access length size address)
  pub load_one : (memory : List ℕ) (opcode address : ℕ) → OneOutcome (λ (r : ℕ). r ≡ loaded opcode (number_at (size_of opcode) address memory))
  pub store_all_one : (memory : List ℕ) (stores : List Store) → OneOutcome (λ (memory' : List ℕ). memory' ≡ stored store stores memory)
  pub shared_one : (stores : List Store) → OneOutcome (λ (r : Bool). r ≡ any_share stores)
