-- Written by tests/public. The promise of each public function of ticks admits one outcome only.
use Rattle.std.specs.Prelude.{Bool, ltb, ℕ, ◌≡◌}
use Rattle.word.specs.Lists.{any_below}
use Rattle.isa.specs.declared.Count.{Count}
use Rattle.isa.specs.declared.Place.{Place}
use Rattle.machine.specs.State.{Sized, registers_of}
use Rattle.machine.specs.declared.State.{State}
use Rattle.ticks.specs.Ticks.{latest, ready_ticks, register_at, views}
use Rattle.ticks.specs.declared.Registers.{Registers}
use Rattle.outcomes.specs.OneOutcome.{OneOutcome}

pub record Ticks : Type 0 where
  -- crates/ticks/src/lib.rt
  pub registers_made_one : (self : Registers) (r : ℕ) → OneOutcome (λ (s : ℕ). s ≡ (register_at self.all r).value)
  pub registers_late_one : (self : Registers) (r : ℕ) (t : Count) → OneOutcome (λ (s : Bool). s ≡ ltb t.0 (register_at self.all r).ready)
  pub registers_any_late_one : (self : Registers) (free t : Count)
      → OneOutcome (λ (s : Bool).
      s ≡ any_below (λ r. ltb t.0 (register_at self.all r).ready) 288)
  pub registers_free_from_one : (self : Registers) → OneOutcome (λ (r : Count). r.0 ≡ latest 0 (ready_ticks self.all))
  pub registers_leave_one : (self : Registers) (t : Count) (place link : Place)
      → OneOutcome (λ (r : State).
      (Sized r) × ((r.place ≡ place) × (r.link ≡ link)) × (registers_of r ≡ views t.0 self.all))
