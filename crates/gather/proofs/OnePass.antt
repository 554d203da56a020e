-- What one pass gathers of busy registers and of where to go on is what the phases say.
use mathlib.Core.Path.{◌≡◌, refl, sym}
use mathlib.Core.Logic.{⊎_elim}
use mathlib.Core.Bool.{Bool, true, false, ◌||◌, ◌&&◌}
use mathlib.Core.List.{List, [], ◌∷◌, ◌++◌, map, map-map}
use Prim.Native.Nat.{ℕ}
use lib.Dec.{eqb, ltb}
use borrow.Author.Tests.{eqb-true}
use Rattle.word.specs.Choice.{pick}
use Rattle.word.specs.Lists.{any, any_below}
use Rattle.word.proofs.Choice.{by_test, or_right}
use Rattle.word.proofs.Lists.{any_append}
use Rattle.vliw.specs.Cell.{Registers, at}
use Rattle.vliw.specs.Machine.{Dest, any_busy}
use Rattle.isa.specs.Control.{reads_every}
use Rattle.isa.specs.Touch.{Result, every_register, result_in, reads, destinations, dests}
use Rattle.isa.specs.declared.Op.{Op}
use Rattle.isa.specs.declared.Delays.{Delays}
use Rattle.isa.proofs.Every.{any_if}
use Rattle.machine.specs.Instruction.{Fired, Next, next_of}
use Rattle.machine.specs.Instruction.{at as goes_to}
use Rattle.gather.specs.Gather.{op_busy, next_from}

-- ---- busy

-- what is named apart from what call and return read besides: of one operation, and of the others
sorted : (a b c d t u v A B N W : Bool) → A || B ≡ N || W → ((a || (b || (c || (d || (v || A))))) || (t || (u || B))) ≡ (((a || b || c || d || t || u) || N) || (v || W))
sorted true b c d t u v A B N W h = refl
sorted false true c d t u v A B N W h = refl
sorted false false true d t u v A B N W h = refl
sorted false false false true t u v A B N W h = refl
sorted false false false false true u v A B N W h = or_right (v || A) refl
sorted false false false false false true v A B N W h = or_right (v || A) refl
sorted false false false false false false true A B N W h = sym (or_right N refl)
sorted false false false false false false false A B N W h = h

abbrev pub flies : Registers → ℕ → Bool
flies l r = ltb 0 (at l r).busy

abbrev pub has_every : Op → Bool
has_every o = reads_every o.way

module _ (l : Registers) (idle : (at l 0).busy ≡ 0) where
  -- the destinations leave out register 0, which is never in flight
  counted : (r c : ℕ) (more : List Result)
      → any (flies l) (map (λ (x : Result). x.register) (result_in r c more)) ≡ flies l r || any (flies l) (map (λ (x : Result). x.register) more)
  counted r c more = ⊎_elim (λ e. rw (e, eqb-true r 0 e, idle)) (λ e. rw e) (by_test (eqb r 0))

  either : (x y t : Bool) → (x && t) || (y && t) ≡ (x || y) && t
  either true true true = refl
  either true true false = refl
  either true false true = refl
  either true false false = refl
  either false y t = refl

  busy_apart : (os : List Op) → any (flies l) (reads os) || any (flies l) (destinations os) ≡ any (op_busy l) os || (any has_every os && any_below (flies l) 288)
  busy_apart [] = refl
  busy_apart (o ∷ os) =
      rw (counted o.t, counted o.carry, any_append (flies l) (pick (reads_every o.way) every_register []) (reads os), any_if (flies l) (reads_every o.way), ← either (reads_every o.way) (any has_every os) (any_below (flies l) 288))
      (sorted (flies l o.s1) (flies l o.s2) (flies l o.b) (flies l o.stored) (flies l o.t) (flies l o.carry) (reads_every o.way && any_below (flies l) 288)
      (any (flies l) (reads os)) (any (flies l) (destinations os)) (any (op_busy l) os) (any has_every os && any_below (flies l) 288) (busy_apart os))

  -- one of the instruction's registers is in flight
  pub busy_uses : (d : Delays) (os : List Op)
      → any_busy (reads os ++ map (λ (e : Dest). e.reg) (dests d os)) l ≡ any (op_busy l) os || (any has_every os && any_below (flies l) 288)
  busy_uses d os = rw (map-map, any_append) (busy_apart os)

-- ---- where to go on

pub next_from_append : (j : ℕ) (es fs : List Fired) (others : Next) → next_from j (es ++ fs) others ≡ next_from j es (next_from j fs others)
next_from_append j [] fs others = refl
next_from_append j (e ∷ es) fs others = rw (next_from_append j es fs others)

pub next_from_lem : (j : ℕ) (es : List Fired) → next_of j es ≡ next_from j es (goes_to j)
next_from_lem j [] = refl
next_from_lem j (e ∷ es) = rw (next_from_lem j es)
