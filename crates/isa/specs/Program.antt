-- Instructions: where they start, which syllables they have, and the cluster of each. The machine's definitions see a program only
-- through `operationsAt`, `following` and `isStart`.
use Rattle.std.specs.Prelude.{◌≡◌, Bool, true, false, List, [], ◌∷◌, map, ℕ, zero, suc, ◌+◌, ◌-◌, ◌≤◌, ◌<◌, get_or, length, drop}
use Rattle.word.specs.Choice.{pick, bit}
use Rattle.isa.specs.Syllable.{ends, opens}
use Rattle.isa.specs.Decode.{decode}
use Rattle.isa.specs.declared.Op.{Op}
use Rattle.isa.specs.declared.Spot.{Spot}

-- the spots from a syllable on, by whether it is its instruction's first and how many clusters that one opened before it; its last has the
-- end bit
abbrev pub spots_from : Bool → ℕ → List ℕ → List Spot
spots_from first opened [] = []
spots_from first opened (s ∷ ss) =
    let k = pick first 0 opened + bit (opens s) in
    record { first = first; last = ends s; opened = k; syllable = s } ∷ spots_from (ends s) k ss

-- syllable 0 is a first one, and so is each after an end bit
abbrev pub spots : List ℕ → List Spot
spots program = spots_from true 0 program

abbrev pub nowhere : Spot
nowhere = record { first = false; last = false; opened = 0; syllable = 0 }

abbrev pub spot_at : List ℕ → ℕ → Spot
spot_at program i = get_or (spots program) i nowhere

-- "The k-th set bit 30 opens cluster k-1, and syllables without it inherit the cluster."
abbrev pub cluster : Spot → ℕ
cluster x = x.opened - 1

-- i is an instruction's first syllable
abbrev pub is_start : List ℕ → ℕ → Bool
is_start program i = (spot_at program i).first

-- which is to say: "An index inside the program starts an instruction exactly if it is 0 or the syllable before it has bit 31."
pub record Starts (program : List ℕ) : Type 0 where
  pub first : 0 < length program → is_start program 0 ≡ true
  pub after : (i : ℕ) → 0 < i → i < length program → is_start program i ≡ ends (get_or program (i - 1) 0)
  pub outside : (i : ℕ) → length program ≤ i → is_start program i ≡ false

-- up to a last one
abbrev pub stretch : List Spot → List Spot
stretch [] = []
stretch (x ∷ xs) = let more = stretch xs in x ∷ pick x.last [] more

abbrev pub instruction_at : List ℕ → ℕ → List Spot
instruction_at program i = stretch (drop i (spots program))

abbrev pub following : List ℕ → ℕ → ℕ
following program i = i + length (instruction_at program i)

abbrev pub operation : Spot → Op
operation x = decode (cluster x) x.syllable

abbrev pub operations_at : List ℕ → ℕ → List Op
operations_at program i = map operation (instruction_at program i)

-- a walk from syllable to syllable: the spot of s after the spot x; before the first one stands a last
abbrev pub next_spot : Spot → ℕ → Spot
next_spot x s = record { first = x.last; last = ends s; opened = pick x.last 0 x.opened + bit (opens s); syllable = s }

abbrev pub before_all : Spot
before_all = record { first = false; last = true; opened = 0; syllable = 0 }

abbrev pub spot_before : List ℕ → ℕ → Spot
spot_before program zero = before_all
spot_before program (suc i) = spot_at program i
