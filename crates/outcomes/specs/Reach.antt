-- Written by tests/public. The promise of each public function of reach admits one outcome only.
use Rattle.std.specs.Prelude.{List, ℕ}
use Rattle.arrayvec.specs.ArrayVec.{ArrayVec}
use Rattle.word.specs.Bytes.{words}
use Rattle.isa.specs.declared.Place.{Place}
use Rattle.reach.specs.Near.{Reaches}
use Rattle.reach.specs.Nexts.{nexts_at}
use Rattle.reach.specs.declared.Near.{Near}
use Rattle.outcomes.specs.OneOutcome.{OneOutcome}

pub record Reach : Type 0 where
  -- crates/reach/src/lib.rt
  pub reach_one : (program : List ℕ) (p : Place) (most : ℕ) (near : ArrayVec Near)
      → OneOutcome (λ (near' : ArrayVec Near).
      Reaches (nexts_at (words program)) p.0 most near'.items)
