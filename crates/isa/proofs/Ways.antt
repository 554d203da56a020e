-- The way of a syllable, and where the syllables of a stretch lead.
use mathlib.Core.Path.{◌≡◌, refl, sym, ◌∙◌}
use mathlib.Core.Bool.{false, false≢true}
use mathlib.Core.List.{List, ◌∷◌, map}
use Prim.Native.Nat.{ℕ, ◌≤◌, ◌<◌}
use native.Mathlib.Omega.{arith}
use lib.ListN.{length, get_or, length-map, get_or-map}
use Rattle.isa.specs.Syllable.{opcode, format_of}
use Rattle.isa.specs.Control.{way_as, way_of, controls}
use Rattle.isa.specs.Program.{nowhere, spots, spot_at, cluster, operation}
use Rattle.isa.specs.Touch.{nexts_by, nexts}
use Rattle.isa.specs.declared.Op.{Op}
use Rattle.isa.specs.declared.Spot.{Spot}
use Rattle.isa.specs.declared.Way.{Way}
use Rattle.isa.specs.declared.Way.TheVariants.{Along, Stop, Goto, Branch, Call, Return}
use Rattle.isa.specs.declared.Format.{Format}
use Rattle.isa.specs.declared.Format.TheVariants.{Still, Two, One, Carry, Test, Select, Load, Store, Copy, Jump, Fork}
use Rattle.isa.proofs.Formats.{Among, format_among}
use Rattle.isa.proofs.Instructions.{spots_length}
use Rattle.isa.proofs.Decoded.{decode_way}

pub way_along : (s : ℕ) → 0 < opcode s → opcode s ≤ 60 → way_of s ≡ Along
unfolding way_of
way_along s p q = by (format_of (opcode s)) (format_among (opcode s))
  where
    by : (f : Format) → Among f (opcode s) → way_as s f ≡ Along
    by Still a = absurd (omega arith)
    by Two a = refl
    by One a = refl
    by Carry a = refl
    by Test a = refl
    by Select a = refl
    by Load a = refl
    by Store a = refl
    by Copy a = refl
    by Jump a = absurd (omega arith)
    by Fork a = absurd (omega arith)

-- every way but along is control
pub along_only : (w : Way) → controls w ≡ false → w ≡ Along
along_only Along h = refl
along_only Stop h = absurd (false≢true (sym h))
along_only (Goto t) h = absurd (false≢true (sym h))
along_only (Branch v t) h = absurd (false≢true (sym h))
along_only (Call t) h = absurd (false≢true (sym h))
along_only Return h = absurd (false≢true (sym h))

-- ---- the operations of a stretch

abbrev pub operations : List ℕ → List Op
operations w = map operation (spots w)

pub operations_size : (w : List ℕ) → length (operations w) ≡ length w
operations_size w = length-map (spots w) _ ∙ spots_length w

pub operations_at_lem : (w : List ℕ) (i : ℕ) → get_or (operations w) i (operation nowhere) ≡ operation (spot_at w i)
operations_at_lem w i = get_or-map operation (spots w) i nowhere

pub nexts_step : (f : ℕ) (x : Spot) (xs : List Spot) {w : Way} → w ≡ way_of x.syllable
    → nexts f (map operation (x ∷ xs)) ≡ nexts_by w f (nexts f (map operation xs))
nexts_step f x xs e = rw (decode_way (cluster x) x.syllable, e)
