-- Document 01, "Refusal numbers": "given exactly if", of load, check and run.
use Rattle.std.specs.Prelude.{◌≡◌, ◌↔◌, Bool, true, false, List, [], ◌∷◌, ℕ, ◌≤◌, ◌<◌, get_or, length}
use Rattle.word.specs.Bytes.{words}
use Rattle.tables.specs.Table.{bad_table, table_of}
use Rattle.refusals.specs.Broken.{bad_program_length, bad_memory_length, bad_state_length, bad_room_length, no_end_at, bad_bits_at, bad_cluster_at, too_wide_at, two_writes_at, bad_control_at}
use Rattle.loader.specs.declared.Answer.{Answer}
use Rattle.schedule.specs.Rule.{TooSoonAt}
use Rattle.machine.specs.Valid.{bad_state}
use Rattle.call.specs.Run.{Call}

-- of an entry: which lengths break 2, by their places; which q touch a result of which p too soon; whether the state breaks 10
module _ (table program : List ℕ) (lengths : List Bool) (TooSoon : ℕ → ℕ → Type 0) (invalid : Bool) where
  abbrev syllables : List ℕ
  syllables = words program

  abbrev size : ℕ
  size = length syllables

  -- a number is broken, with what it has in the count's field, and a place
  pub data Breaks : ℕ → ℕ → ℕ → Type 0 where
    limit : bad_table table ≡ true → Breaks 1 0 0
    wrong_length : (i : ℕ) → get_or lengths i false ≡ true → Breaks 2 0 i
    no_end : (i : ℕ) → i < size → no_end_at syllables i ≡ true → Breaks 3 0 i
    bad_bits : (i : ℕ) → i < size → bad_bits_at syllables i ≡ true → Breaks 4 0 i
    bad_cluster : (i : ℕ) → i < size → bad_cluster_at (table_of table).clusters syllables i ≡ true → Breaks 5 0 i
    too_wide : (i : ℕ) → i < size → too_wide_at (table_of table) syllables i ≡ true → Breaks 6 0 i
    two_writes : (i : ℕ) → i < size → two_writes_at syllables i ≡ true → Breaks 7 0 i
    bad_control : (i : ℕ) → i < size → bad_control_at syllables i ≡ true → Breaks 8 0 i
    too_soon : (p q : ℕ) → TooSoon p q → Breaks 9 p q
    not_valid : invalid ≡ true → Breaks 10 0 0

abbrev pub nothing : ℕ → ℕ → Type 0
nothing p q = ⊥

-- load and check take no memory and no state image, which have places 1 and 2 of number 2
abbrev pub LoadBreaks : List ℕ → List ℕ → List ℕ → ℕ → ℕ → ℕ → Type 0
LoadBreaks table program room = Breaks table program (bad_program_length program ∷ false ∷ false ∷ bad_room_length room ∷ []) nothing false

abbrev pub CheckBreaks : List ℕ → List ℕ → List ℕ → ℕ → ℕ → ℕ → Type 0
CheckBreaks table program room =
    Breaks table program (bad_program_length program ∷ false ∷ false ∷ bad_room_length room ∷ []) (TooSoonAt (table_of table).delays (words program)) false

abbrev pub RunBreaks : Call → ℕ → ℕ → ℕ → Type 0
RunBreaks c =
    Breaks c.table c.program
    (bad_program_length c.program ∷ bad_memory_length c.memory ∷ bad_state_length c.state ∷ bad_room_length c.room ∷ [])
    nothing (bad_state (words c.program) c.state)

module _ (Broken : ℕ → ℕ → ℕ → Type 0) where
  -- "Each number is tested over the whole input before the next, in this order, lowest place first"; of 9 "the lowest such p and, for it,
  -- the lowest such q"
  pub record First (k n i : ℕ) : Type 0 where
    pub breaks : Broken k n i
    pub before : (l m j : ℕ) → l < k → ¬ Broken l m j
    pub lowest : (m j : ℕ) → Broken k m j → n ≤ m
    pub place : (j : ℕ) → Broken k n j → i ≤ j

  -- an entry passes exactly if nothing breaks, and gives a number, a count and a place exactly if that number breaks first, and there
  pub record Exact (passes : Type 0) (a : Answer) : Type 0 where
    pub passed : passes ↔ ((k n i : ℕ) → ¬ Broken k n i)
    pub refused : (k n i : ℕ) → 1 ≤ k → k ≤ 10 → ((a.number ≡ k) × (a.count ≡ n) × (a.place ≡ i)) ↔ First k n i
