-- The instructions of a program, as they are cut one after the other.
use Rattle.std.specs.Prelude.{◌≡◌, true, List, ℕ, ◌-◌, ◌≤◌, length, Option, MatchOption}
use denote.Ref.{Bor}
use Rattle.word.specs.Bytes.{words}
use Rattle.isa.specs.Program.{spots, is_start, instruction_at, following}
use Rattle.isa.specs.declared.Place.{Place}
use Rattle.isa.specs.declared.cuts.Cuts.{Cuts}

-- the program, and the place of the instruction that comes next
abbrev pub program_of : Cuts → List ℕ
program_of it = it.program.now

abbrev pub next_at : Cuts → ℕ
next_at it = it.at.0

-- the instruction that starts there; the next one follows it
pub record Gives (s : Cuts) (at : Place) (stretch : List ℕ) (t : Cuts) : Type 0 where
  pub same : program_of t ≡ program_of s
  pub place : at.0 ≡ next_at s
  pub start : is_start (words (program_of s)) at.0 ≡ true
  pub syllables : spots (words stretch) ≡ instruction_at (words (program_of s)) at.0
  pub next : next_at t ≡ following (words (program_of s)) at.0

abbrev pub GivesInstruction : Cuts → Option (Place × Bor (List ℕ)) → Cuts → Type 0
GivesInstruction s r t = MatchOption r (length (words (program_of s)) ≤ next_at s) (λ i. Gives s i.0 i.1.now t)

abbrev pub syllables_left : Cuts → ℕ
syllables_left it = length (words (program_of it)) - next_at it
