-- Loading: "Each number is tested over the whole input before the next, in this order, lowest place first."
use Rattle.std.specs.Prelude.{Bool, List, ℕ, length, Option, Some, None, Result, Ok, Err}
use Rattle.word.specs.Choice.{pick}
use Rattle.isa.specs.Lowest.{lowest}
use Rattle.word.specs.Bytes.{words}
use Rattle.isa.specs.declared.Place.{Place}
use Rattle.isa.specs.declared.Table.{Table}
use Rattle.tables.specs.Table.{bad_table, table_of}
use Rattle.refusals.specs.Broken.{bad_program_length, bad_room_length, no_end_at, bad_bits_at, bad_cluster_at, too_wide_at, two_writes_at, bad_control_at}
use Rattle.loader.specs.declared.Refusal.{Refusal}
use Rattle.loader.specs.declared.Refusal.TheVariants.{BadTable, ProgramLength, RoomLength, NoEnd, BadBits, BadCluster, TooWide, TwoWrites, BadControl}

abbrev pub Loaded : Type 0
Loaded = Result (Unit {0}) Refusal

infixr 20 ◌otherwise◌
-- the first refusal
abbrev pub ◌otherwise◌ : Loaded → Loaded → Loaded
◌otherwise◌ (Ok tt) b = b
◌otherwise◌ (Err r) b = Err r

abbrev pub refused_if : Bool → Refusal → Loaded
refused_if broken r = pick broken (Err r) (Ok tt)

abbrev pub refused_at : (Place → Refusal) → Option Place → Loaded
refused_at r (Some i) = Err (r i)
refused_at r None = Ok tt

-- 3 to 8, of the syllables
unfoldable pub tested_by : Table → List ℕ → Loaded
tested_by table program =
    let n = length program in
    refused_at NoEnd (lowest (no_end_at program) n)
    otherwise refused_at BadBits (lowest (bad_bits_at program) n)
    otherwise refused_at BadCluster (lowest (bad_cluster_at table.clusters program) n)
    otherwise refused_at TooWide (lowest (too_wide_at table program) n)
    otherwise refused_at TwoWrites (lowest (two_writes_at program) n)
    otherwise refused_at BadControl (lowest (bad_control_at program) n)

-- 1; what an entry tests under 2; 3 to 8
unfoldable pub loaded_with : Loaded → List ℕ → List ℕ → Loaded
loaded_with sizes table program =
    refused_if (bad_table table) BadTable otherwise sizes otherwise tested_by (table_of table) (words program)

-- load and check take no memory and no state image
abbrev pub loaded_of : List ℕ → List ℕ → List ℕ → Loaded
loaded_of table program room =
    loaded_with (refused_if (bad_program_length program) ProgramLength otherwise refused_if (bad_room_length room) RoomLength) table program
