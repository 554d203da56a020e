-- What is seen of an iterator's step, in the words of its law: what comes, and what is left behind it. Of a step that gives none, that it does.
use Rattle.std.specs.Prelude.{List, ℕ, Option, option_map}
use denote.Ref.{Bor}
use Rattle.word.specs.Bytes.{words}
use Rattle.isa.specs.Cuts.{program_of, next_at}
use Rattle.isa.specs.Program.{spots}
use Rattle.isa.specs.Walk.{spots_left}
use Rattle.isa.specs.declared.Place.{Place}
use Rattle.isa.specs.declared.Spot.{Spot}
use Rattle.isa.specs.declared.cuts.Cuts.{Cuts}
use Rattle.isa.specs.declared.walk.Walk.{Walk}
use Rattle.source.specs.Each.{left}
use Rattle.source.specs.Heard.{Heard}
use Rattle.source.specs.Seek.{heard_in}
use Rattle.source.specs.declared.each_line.Lines.{Lines}
use Rattle.source.specs.declared.reading.ReadLine.{ReadLine}

-- the spot, and the spots that are left
pub record Spotted : Type 0 where
  pub spot : Option Spot
  pub left : List Spot

abbrev pub isa_walk_next : record { result : Option Spot; self : Walk } → Spotted
isa_walk_next o = record { spot = o.result; left = spots_left o.self }

-- the instruction's place and spots, the program, and the place of the next one
pub record Instructed : Type 0 where
  pub place : Place
  pub spots : List Spot
  pub program : List ℕ
  pub next : ℕ

abbrev pub isa_cuts_next : record { result : Option (Place × (Bor (List ℕ))); self : Cuts } → Option Instructed
isa_cuts_next o = option_map (λ i. record { place = i.0; spots = spots (words i.1.now); program = program_of o.self; next = next_at o.self }) o.result

-- the line's place, its bytes and what it says; the text, the lines that are left, and the place of the next one
pub record Lined : Type 0 where
  pub place : ℕ
  pub bytes : List ℕ
  pub says : Heard
  pub text : List ℕ
  pub left : List (List ℕ)
  pub next : Option ℕ

abbrev pub source_lines_next : record { result : Option (ℕ × ReadLine); self : Lines } → Option Lined
source_lines_next o =
    option_map (λ i. record {
      place = i.0;
      bytes = i.1.bytes.now;
      says = heard_in i.1.bytes.now i.1.line;
      text = o.self.text.now;
      left = left o.self;
      next = o.self.next;
    }) o.result
