-- Schedules that check passes and refuses.
use Rattle.std.specs.Prelude.{List, [], ◌∷◌, ℕ, Ok, Err}
use Rattle.word.specs.Bytes.{words}
use Rattle.isa.specs.Control.{place}
use Rattle.isa.specs.declared.Delays.{Delays}
use Rattle.tables.specs.Table.{table_of}
use Rattle.schedule.specs.Rule.{Verdict, Says}
use Rattle.samples.specs.Wrong.{table}

-- ldw 3 = 0[0]; nop; add 4 = 3, 1; stop
abbrev pub two : List ℕ
two =
    0xF4 ∷ 0x0C ∷ 0x00 ∷ 0x00 ∷ 0xC0 ∷ 0x00 ∷ 0x00 ∷ 0x00 ∷ 0xC1 ∷ 0x10 ∷ 0x38 ∷ 0x01 ∷ 0xC0 ∷ 0x04 ∷ 0x00 ∷ 0x00 ∷ []

-- the same with one more nop
abbrev pub three : List ℕ
three =
    0xF4 ∷ 0x0C ∷ 0x00 ∷ 0x00 ∷ 0xC0 ∷ 0x00 ∷ 0x00 ∷ 0x00 ∷ 0xC0 ∷ 0x00 ∷ 0x00 ∷ 0x00 ∷ 0xC1 ∷ 0x10 ∷ 0x38 ∷ 0x01 ∷ 0xC0 ∷ 0x04
    ∷ 0x00 ∷ 0x00 ∷ []

-- ldw 3 = 0[3] with goto 0
abbrev pub self : List ℕ
self = 0x74 ∷ 0x0C ∷ 0x30 ∷ 0x00 ∷ 0xBD ∷ 0x00 ∷ 0x00 ∷ 0x00 ∷ []

-- LOAD is 3
abbrev pub delays : Delays
delays = (table_of table).delays

abbrev pub SaidOf : List ℕ → Verdict → Type 0
SaidOf program v = Says delays (words program) v

abbrev pub too_soon : ℕ → ℕ → Verdict
too_soon p q = Err (record { producer = place p; consumer = place q })

-- document 01: "With LOAD 3 a reader two instructions on is 9, three on is not"
pub record Examples : Type 0 where
  pub two_on : SaidOf two (too_soon 0 2)
  pub three_on : SaidOf three (Ok tt)
  -- a loop to itself is its own consumer
  pub looping : SaidOf self (too_soon 0 0)
