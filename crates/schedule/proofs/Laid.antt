-- A program that loads is laid out as the search relies on, and each of its instructions is decodable by itself.
use mathlib.Core.Path.{◌≡◌, sym, ap, ◌∙◌}
use mathlib.Core.Bool.{true}
use mathlib.Core.List.{List, ◌∷◌}
use Prim.Native.Nat.{ℕ, suc, ◌+◌, ◌-◌, ◌/◌, ◌≤◌, ◌<◌, suc-le-suc, zero-le}
use native.Mathlib.Omega.{arith}
use lib.ListN.{length, get_or}
use Rattle.word.specs.Bytes.{words}
use Rattle.word.proofs.Bytes.{words_length}
use Rattle.isa.specs.Program.{nowhere, spots, spot_at, is_start, instruction_at, following, cluster, operation}
use Rattle.isa.specs.declared.Op.{Op}
use Rattle.isa.specs.declared.Spot.{Spot}
use Rattle.isa.specs.declared.Table.{Table}
use Rattle.isa.proofs.Decoded.{decoded}
use Rattle.isa.proofs.Instructions.{spots_length, start_inside, following_within, instruction_length, instruction_at_lem}
use Rattle.tables.specs.Bounds.{Bounds}
use Rattle.loader.specs.Passed.{Passed}
use Rattle.loader.proofs.Taken.{in_cluster, short, onward}
use Rattle.reach.specs.Laid.{Laid}
use Rattle.schedule.specs.Decodable.{Decodable}
use Rattle.schedule.specs.Stamps.{Registers}

pub laid : {table : Table} {p : List ℕ} → Bounds table → Passed table p → Laid p
laid b ok =
    record {
      clusters = λ j h. omega (arith, in_cluster ok j h, b.clusters);
      short = λ i s. short ok i s b.clusters.1 (λ k l. b.width k);
      onward = λ i s m. onward ok i s m;
    }

-- w has the syllables of the instruction at i
pub decodable : {p w : List ℕ} (i : ℕ) → Laid p → is_start p i ≡ true → spots w ≡ instruction_at p i → Decodable w
decodable {p} {w} i ok s e =
    record {
      clusters = λ j h. rw (at j h) (ok.clusters (i + j) (omega (arith, size, following_within p i (start_inside p i s))));
      short = omega (arith, size, instruction_length p i, ok.short i s);
    }
  where
    size : length w ≡ following p i - i
    size = sym (spots_length w) ∙ ap length e ∙ instruction_length p i

    at : (j : ℕ) → j < length w → spot_at w j ≡ spot_at p (i + j)
    at j h = ap (λ (xs : List Spot). get_or xs j nowhere) e ∙ instruction_at_lem p i j nowhere (omega (arith, size))

-- an operation names registers that there are
pub registers : (x : Spot) → x.opened ≤ 4 → Registers (operation x)
registers x h =
    let d = decoded (cluster x) x.syllable (omega arith) in
    record { s1 = omega (arith, d.s1); s2 = omega (arith, d.s2); b = d.b; stored = omega (arith, d.stored); t = d.t; carry = d.carry }

pub inside : (l : List ℕ) (i : ℕ) → i < length l / 4 → i < length (words l)
inside l i b = omega (arith, words_length l)

-- the spots that a loop over a decodable stretch has left: none opens a fifth cluster
abbrev pub Few : List Spot → Type 0
Few xs = (j : ℕ) → j < length xs → (get_or xs j nowhere).opened ≤ 4

pub few_all : {w : List ℕ} → Decodable w → Few (spots w)
few_all {w} d j h = d.clusters j (rw spots_length at h)

-- a turn of the loop
module _ {xs ys : List Spot} {x : Spot} (few : Few xs) (e : xs ≡ x ∷ ys) where
  pub few_here : x.opened ≤ 4
  few_here = (rw e at few) 0 (suc-le-suc zero-le)

  pub few_left : Few ys
  few_left j h = (rw e at few) (suc j) (suc-le-suc h)

  pub names_here : {o : Op} → o ≡ operation x → Registers o
  names_here q = rw q (registers x few_here)
