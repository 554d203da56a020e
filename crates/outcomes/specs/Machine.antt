-- Written by tests/public. The promise of each public function of machine admits one outcome only.
use Rattle.std.specs.Prelude.{Bool, List, set, ℕ, ◌<◌, ◌≡◌}
use Rattle.word.specs.Lists.{any_below}
use Rattle.vliw.specs.Cell.{at, still}
use Rattle.isa.specs.declared.Place.{Place}
use Rattle.machine.specs.Image.{image_of, image_offset, link_in, place_in, registers_in}
use Rattle.machine.specs.State.{Sized, cell_of, registers_of}
use Rattle.machine.specs.Valid.{bad_register}
use Rattle.machine.specs.declared.Cell.{Cell}
use Rattle.machine.specs.declared.State.{State}
use Rattle.outcomes.specs.OneOutcome.{OneOutcome}

pub record Machine : Type 0 where
  -- crates/machine/src/lib.rt
  pub state_still_one : (place link : Place)
      → OneOutcome (λ (s : State).
      (Sized s) × ((s.place ≡ place) × (s.link ≡ link)) × ((r : ℕ) → r < 288 → at (registers_of s) r ≡ still))
  pub state_register_one : (self : State) (r : ℕ) → OneOutcome (λ (s : Cell). cell_of s ≡ at (registers_of self) r)
  pub state_put_one : (self : State) (r : ℕ) (c : Cell)
      → OneOutcome (λ (self' : State).
      (Sized self') × ((self'.place ≡ self.place) × (self'.link ≡ self.link)) × (registers_of self' ≡ set (registers_of self) r (cell_of c)))
  -- crates/machine/src/image.rt
  pub offset_one : (r : ℕ) → OneOutcome (λ (s : ℕ). s ≡ image_offset r)
  pub read_one : (image : List ℕ)
      → OneOutcome (λ (r : State).
      (Sized r) × ((r.place.0 ≡ place_in image) × (registers_of r ≡ registers_in image) × (r.link.0 ≡ link_in image)))
  pub write_one : (image : List ℕ) (s : State) → OneOutcome (λ (image' : List ℕ). image' ≡ image_of s.place.0 (registers_of s) s.link.0)
  -- crates/machine/src/valid.rt
  pub bad_registers_one : (s : State) → OneOutcome (λ (result : Bool). result ≡ any_below (λ r. bad_register r (at (registers_of s) r)) 288)
