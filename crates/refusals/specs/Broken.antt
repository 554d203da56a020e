-- Document 01, "Refusal numbers", 2 to 8: for each number, what breaks it at a place. A program is its syllables here.
use Rattle.std.specs.Prelude.{Bool, false, not, ◌||◌, ◌&&◌, List, ℕ, suc, ◌%◌, eqb, ltb, leb, get_or, length, Option, Some, None}
use Rattle.word.specs.Lists.{any, any_below, count, repeats}
use Rattle.isa.specs.Syllable.{ends, opens, opcode, source, is_alu, is_mul, is_mem, is_copy}
use Rattle.isa.specs.Control.{way_of, is_control, target_of, solitary, leaves}
use Rattle.isa.specs.Program.{spot_at, cluster, is_start, instruction_at, following, operations_at}
use Rattle.isa.specs.Touch.{destinations}
use Rattle.isa.specs.declared.Spot.{Spot}
use Rattle.isa.specs.declared.Place.{Place}
use Rattle.isa.specs.declared.Table.{Table}
use Rattle.zero.specs.Zero.{bad_bits}

-- 2, of the bytes: "A program is 1 to 4,096 syllables of 32 bits. Memory is 0 to 65,536 bytes."
abbrev pub bad_program_length : List ℕ → Bool
bad_program_length bytes = eqb (length bytes) 0 || ltb 16384 (length bytes) || not (eqb (length bytes % 4) 0)

abbrev pub bad_memory_length : List ℕ → Bool
bad_memory_length bytes = ltb 65536 (length bytes)

abbrev pub bad_state_length : List ℕ → Bool
bad_state_length bytes = not (eqb (length bytes) 2888)

abbrev pub bad_room_length : List ℕ → Bool
bad_room_length bytes = not (eqb (length bytes) 12)

module _ (program : List ℕ) (i : ℕ) where
  -- 3: "the last syllable lacks bit 31"
  unfoldable pub no_end_at : Bool
  no_end_at = eqb (suc i) (length program) && not (ends (get_or program i 0))

  -- 4
  unfoldable pub bad_bits_at : Bool
  bad_bits_at = bad_bits (get_or program i 0)

-- 5: "bit 30 missing at an instruction's first syllable; more clusters opened than C; control outside cluster 0;
-- copy from its own cluster or from one not below C"
abbrev pub bad_cluster : ℕ → Spot → Bool
bad_cluster C x =
    let s = x.syllable in
    (x.first && not (opens s)) || ltb C x.opened || (is_control s && not (eqb (cluster x) 0))
    || (is_copy (opcode s) && (eqb (source s) (cluster x) || leb C (source s)))

unfoldable pub bad_cluster_at : ℕ → List ℕ → ℕ → Bool
bad_cluster_at C program i = bad_cluster C (spot_at program i)

-- 6: "in one instruction a cluster has more syllables (nops too) than its width, or more of a class than its count; a copy counts
-- for COPY in both clusters; or more than one control syllable"
abbrev pub here : ℕ → (ℕ → Bool) → Spot → Bool
here k class x = eqb (cluster x) k && class (opcode x.syllable)

abbrev pub copies : ℕ → Spot → Bool
copies k x = is_copy (opcode x.syllable) && (eqb (cluster x) k || eqb (source x.syllable) k)

abbrev pub overfull : Table → List Spot → ℕ → Bool
overfull table xs k =
    ltb (get_or table.width k 0) (count (λ x. eqb (cluster x) k) xs)
    || ltb (get_or table.alu k 0) (count (here k is_alu) xs)
    || ltb (get_or table.mul k 0) (count (here k is_mul) xs)
    || ltb (get_or table.mem k 0) (count (here k is_mem) xs)
    || ltb (get_or table.copy k 0) (count (copies k) xs)

abbrev pub too_wide : Table → List Spot → Bool
too_wide table xs = any_below (overfull table xs) table.clusters || ltb 1 (count (λ x. is_control x.syllable) xs)

unfoldable pub too_wide_at : Table → List ℕ → ℕ → Bool
too_wide_at table program i = is_start program i && too_wide table (instruction_at program i)

-- 7: "one instruction names one register, not register 0, twice as destination"
unfoldable pub two_writes_at : List ℕ → ℕ → Bool
two_writes_at program i = is_start program i && repeats (destinations (operations_at program i))

-- 8: "target is no instruction's first syllable; stop has company (a nop too); the last instruction has neither goto nor stop"; by order 1
-- "call's target and return's company .. and the last instruction may also be a return, but not a call"
abbrev pub misses : (ℕ → Bool) → Option Place → Bool
misses starts None = false
misses starts (Some target) = not (starts target.0)

abbrev pub alone : Spot → Bool
alone x = x.first && x.last

abbrev pub leaving : Spot → Bool
leaving x = leaves (way_of x.syllable)

-- the last instruction starts here
abbrev pub is_last : List ℕ → ℕ → Bool
is_last program i = is_start program i && eqb (following program i) (length program)

unfoldable pub bad_control_at : List ℕ → ℕ → Bool
bad_control_at program i =
    let x = spot_at program i in
    let way = way_of x.syllable in
    misses (is_start program) (target_of way)
    || (solitary way && not (alone x))
    || (is_last program i && not (any leaving (instruction_at program i)))
