-- Written by tests/public. The promise of each public function of isa admits one outcome only.
use Rattle.std.specs.Prelude.{Bool, List, Option, eqb, get_or, map, ℕ, ◌&&◌, ◌+◌, ◌-◌, ◌||◌, ◌≡◌}
use Rattle.std.specs.Iterator.{YieldsFirst}
use denote.Ref.{Bor}
use Rattle.word.specs.Bytes.{words}
use Rattle.word.specs.Choice.{bit}
use Rattle.isa.specs.Control.{controls, is_control, leaves, reads_every, solitary, target_of, turn_of, way_of}
use Rattle.isa.specs.Cuts.{GivesInstruction}
use Rattle.isa.specs.Decode.{decode, immediate_of, offset_of}
use Rattle.isa.specs.Program.{before_all, cluster, following, is_start, next_spot, operation, spots}
use Rattle.isa.specs.Syllable.{bits, ends, format_of, is_alu, is_copy, is_mem, is_mul, opcode, opens, source, within}
use Rattle.isa.specs.Touch.{delay_of, listed, nexts}
use Rattle.isa.specs.Walk.{spots_left}
use Rattle.isa.specs.declared.Delays.{Delays}
use Rattle.isa.specs.declared.Destinations.{Destinations}
use Rattle.isa.specs.declared.Format.{Format}
use Rattle.isa.specs.declared.Nexts.{Nexts}
use Rattle.isa.specs.declared.Op.{Op}
use Rattle.isa.specs.declared.Place.{Place}
use Rattle.isa.specs.declared.Slot.{Slot}
use Rattle.isa.specs.declared.Spot.{Spot}
use Rattle.isa.specs.declared.Turn.{Turn}
use Rattle.isa.specs.declared.Way.{Way}
use Rattle.isa.specs.declared.cuts.Cuts.{Cuts}
use Rattle.isa.specs.declared.walk.Walk.{Walk}
use Rattle.outcomes.specs.OneOutcome.{OneOutcome, OneOutcomeSeen}
use Rattle.outcomes.specs.Steps.{isa_cuts_next, isa_walk_next}

pub record Isa : Type 0 where
  -- crates/isa/src/control.rt
  pub control_still_one : (s : ℕ) → OneOutcome (λ (r : Way). r ≡ way_of s)
  pub goto_one : (s : ℕ) → OneOutcome (λ (r : Way). r ≡ way_of s)
  pub fork_one : (s : ℕ) → OneOutcome (λ (r : Way). r ≡ way_of s)
  pub way_one : (s : ℕ) → OneOutcome (λ (r : Way). r ≡ way_of s)
  pub controls_one : (w : Way) → OneOutcome (λ (r : Bool). r ≡ controls w)
  pub is_control_one : (s : ℕ) → OneOutcome (λ (r : Bool). r ≡ is_control s)
  pub target_one : (w : Way) → OneOutcome (λ (r : Option Place). r ≡ target_of w)
  pub solitary_one : (w : Way) → OneOutcome (λ (r : Bool). r ≡ solitary w)
  pub leaves_one : (w : Way) → OneOutcome (λ (r : Bool). r ≡ leaves w)
  pub reads_every_one : (w : Way) → OneOutcome (λ (r : Bool). r ≡ reads_every w)
  pub turn_one : (w : Way) (b : ℕ) (j : Place) → OneOutcome (λ (r : Turn). r ≡ turn_of w b j)
  pub nexts_one : (stretch : List ℕ) (j : Place) → OneOutcome (λ (r : Nexts). listed r ≡ nexts j.0 (map operation (spots (words stretch))))
  -- crates/isa/src/cuts.rt
  pub cuts_next_one : (self : Cuts)
      → OneOutcomeSeen isa_cuts_next (λ (o : record { result : Option (Place × (Bor (List ℕ))); self : Cuts }).
      GivesInstruction self o.result o.self)
  -- crates/isa/src/decode.rt
  pub immediate_one : (s : ℕ) → OneOutcome (λ (r : ℕ). r ≡ immediate_of s)
  pub offset_one : (s : ℕ) → OneOutcome (λ (r : ℕ). r ≡ offset_of s)
  pub compute_one : (c s : ℕ) → OneOutcome (λ (r : Op). r ≡ decode c s)
  pub access_one : (c s : ℕ) → OneOutcome (λ (r : Op). r ≡ decode c s)
  pub copy_one : (c s : ℕ) → OneOutcome (λ (r : Op). r ≡ decode c s)
  pub decode_still_one : (s : ℕ) → OneOutcome (λ (r : Op). (c : ℕ) → r ≡ decode c s)
  pub jump_one : (c s : ℕ) → OneOutcome (λ (r : Op). r ≡ decode c s)
  pub decode_one : (c s : ℕ) → OneOutcome (λ (r : Op). r ≡ decode c s)
  pub destinations_one : (c s : ℕ) → OneOutcome (λ (r : Destinations). r ≡ record { t = (decode c s).t; carry = (decode c s).carry })
  -- crates/isa/src/program.rt
  pub program_syllable_one : (program : List ℕ) (at : Place) → OneOutcome (λ (r : ℕ). r ≡ get_or (words program) at.0 0)
  pub following_one : (program : List ℕ) (at : Place) → OneOutcome (λ (r : Place). r.0 ≡ following (words program) at.0)
  pub is_start_one : (program : List ℕ) (at : Place) → OneOutcome (λ (r : Bool). r ≡ is_start (words program) at.0)
  -- crates/isa/src/stretch.rt
  pub stretch_syllable_one : (stretch : List ℕ) (at : Slot) → OneOutcome (λ (r : ℕ). r ≡ get_or (words stretch) at.0 0)
  pub before_all_one : OneOutcome (λ (r : Spot). r ≡ before_all)
  pub opened_one : (before s : ℕ) → OneOutcome (λ (r : ℕ). r ≡ before + bit (opens s))
  pub next_spot_one : (x : Spot) (s : ℕ) → OneOutcome (λ (r : Spot). r ≡ next_spot x s)
  pub opened_by_one : (k : ℕ) → OneOutcome (λ (r : ℕ). r ≡ k - 1)
  pub cluster_one : (x : Spot) → OneOutcome (λ (r : ℕ). r ≡ cluster x)
  pub operation_one : (x : Spot) → OneOutcome (λ (r : Op). r ≡ operation x)
  -- crates/isa/src/syllable.rt
  pub bits_one : (s hi lo : ℕ) → OneOutcome (λ (r : ℕ). r ≡ bits hi lo s)
  pub holds_one : (s hi lo x : ℕ) → OneOutcome (λ (r : Bool). r ≡ eqb (bits hi lo s) x)
  pub ends_one : (s : ℕ) → OneOutcome (λ (r : Bool). r ≡ ends s)
  pub opens_one : (s : ℕ) → OneOutcome (λ (r : Bool). r ≡ opens s)
  pub opcode_one : (s : ℕ) → OneOutcome (λ (r : ℕ). r ≡ opcode s)
  pub source_one : (s : ℕ) → OneOutcome (λ (r : ℕ). r ≡ source s)
  pub format_one : (o : ℕ) → OneOutcome (λ (r : Format). r ≡ format_of o)
  pub within_one : (first last o : ℕ) → OneOutcome (λ (r : Bool). r ≡ within first last o)
  pub is_alu_one : (o : ℕ) → OneOutcome (λ (r : Bool). r ≡ is_alu o)
  pub is_mul_one : (o : ℕ) → OneOutcome (λ (r : Bool). r ≡ is_mul o)
  pub is_mem_one : (o : ℕ) → OneOutcome (λ (r : Bool). r ≡ is_mem o)
  pub is_copy_one : (o : ℕ) → OneOutcome (λ (r : Bool). r ≡ is_copy o)
  -- crates/isa/src/touch.rt
  pub delay_one : (d : Delays) (opcode register : ℕ) → OneOutcome (λ (r : ℕ). r ≡ delay_of d opcode register)
  -- crates/isa/src/truth.rt
  pub either_one : (a b : Bool) → OneOutcome (λ (r : Bool). r ≡ (a || b))
  pub both_one : (a b : Bool) → OneOutcome (λ (r : Bool). r ≡ (a && b))
  -- crates/isa/src/walk.rt
  pub walk_next_one : (self : Walk)
      → OneOutcomeSeen isa_walk_next (λ (o : record { result : Option Spot; self : Walk }).
      YieldsFirst spots_left self o.result o.self)
