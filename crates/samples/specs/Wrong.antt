-- Programs that break a promise: of load and of check those that refuse everything, pass everything, or always give the same number.
use Rattle.std.specs.Prelude.{◌≡◌, ◌≢◌, List, [], ◌∷◌, ℕ, replicate}
use Rattle.loader.specs.Answer.{RoomOutcome, load_outcome}
use Rattle.schedule.specs.Answer.{Checks}

-- a program of which a part is always the same, whatever it is, breaks the promise at some input
abbrev pub NeverSame : {I O A : Type 0} → (I → O → Type 0) → (O → A) → Type 0
NeverSame {I = I} {O = O} {A = A} Promise part = (f : I → O) (a : A) → ((i : I) → part (f i) ≡ a) → (i : I) × (Promise i (f i) → ⊥)

-- a call of load or of check, and what each promises of it
pub record LoadCall : Type 0 where
  pub table : List ℕ
  pub program : List ℕ
  pub room : List ℕ

abbrev pub Loads : LoadCall → RoomOutcome → Type 0
Loads c o = o ≡ load_outcome c.table c.program c.room

abbrev pub ChecksCall : LoadCall → RoomOutcome → Type 0
ChecksCall c o = Checks c.table c.program c.room o

-- programs that break such a promise, whatever else they do: at a call that is taken, at one that is refused, at one of the two
pub record Wrong (Promise : LoadCall → RoomOutcome → Type 0) (taken refused : LoadCall) : Type 0 where
  pub refusing : (f : LoadCall → RoomOutcome) → ((c : LoadCall) → (f c).result ≢ 0) → Promise taken (f taken) → ⊥
  pub passing : (f : LoadCall → RoomOutcome) → ((c : LoadCall) → (f c).result ≡ 0) → Promise refused (f refused) → ⊥
  pub same : NeverSame Promise (λ o. o.result)

-- document 01's example: its table, and its program (add 3 = 0, 5; stop)
abbrev pub table : List ℕ
table = 1 ∷ 4 ∷ 4 ∷ 2 ∷ 1 ∷ 0 ∷ 1 ∷ 2 ∷ 2 ∷ 3 ∷ 1 ∷ []

abbrev pub program : List ℕ
program = 0xC1 ∷ 0x0C ∷ 0x08 ∷ 0x05 ∷ 0xC0 ∷ 0x04 ∷ 0x00 ∷ 0x00 ∷ []

abbrev pub room : List ℕ
room = replicate 12 0

abbrev pub under : List ℕ → List ℕ → LoadCall
under table program = record { table = table; program = program; room = room }
