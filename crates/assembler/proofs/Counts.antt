-- As many syllables are written as the walk from line to line counts.
use mathlib.Core.Path.{◌≡◌, refl, sym, ap, ◌∙◌}
use mathlib.Core.Bool.{Bool, true, false, ◌||◌}
use mathlib.Core.List.{List, [], ◌∷◌, ◌++◌}
use mathlib.Core.Option.{Option, none, some}
use Prim.Native.Nat.{ℕ, zero, suc, ◌+◌, ◌-◌}
use native.Mathlib.Omega.{arith}
use borrow.Author.Tests.{ne_eqb}
use lib.Dec.{eqb}
use lib.ListN.{length, length-append}
use Rattle.word.specs.Choice.{pick}
use Rattle.word.proofs.Choice.{or_false}
use Rattle.values.specs.Values.{Value}
use Rattle.operations.specs.Meaning.{Said}
use Rattle.source.specs.Heard.{Heard, says, unread}
use Rattle.source.specs.Walk.{Walk, start, refused, step, walked, inside, empty, falls}
use Rattle.source.specs.Labels.{value_of}
use Rattle.assembler.specs.Program.{ends, nops, program}
use Rattle.assembler.specs.Passes.{kept, keeps, adds, lastly, writes}
use Rattle.assembler.proofs.Instructions.{written}

pub nops_length : (n : ℕ) → length (nops n) ≡ n
nops_length zero = refl
nops_length (suc n) = ap suc (nops_length n)

abbrev Counts : Walk → ℕ → ℕ → Type 0
Counts w last out = out + length (kept w last) ≡ w.count

module _ (env : List ℕ → Value) where
  abbrev From : List Heard → Type 0
  From hs = (w : Walk) (last out : ℕ) → Counts w last out → out + length (writes env w last hs) ≡ (walked w hs).count

  at_end_lem : (w : Walk) (last out : ℕ) (t : Bool) → out + length (pick t [] (last ∷ [])) ≡ w.count → out + length (pick t [] ((last + ends) ∷ [])) ≡ w.count
  at_end_lem w last out true c = c
  at_end_lem w last out false c = c

  module _ (hs : List Heard) (again : From hs) (w : Walk) (last out : ℕ) (c : Counts w last out) where
    -- what a line writes, and what comes after it
    parts : (h : Heard) (n : ℕ) → length (adds env w last h) ≡ n → Counts (step w h) (lastly env w last h) (out + n)
        → out + length (adds env w last h ++ writes env (step w h) (lastly env w last h) hs) ≡ (walked w (h ∷ hs)).count
    parts h n e k =
        let l = length-append (adds env w last h) (writes env (step w h) (lastly env w last h) hs) in
        let i = again (step w h) (lastly env w last h) (out + n) k in
        omega (arith, l, i, e)

    heed : (given : Option (List ℕ)) (does : Option Said) (e : Bool) → refused w (says given does e) ≡ false
        → (n : ℕ) × (length (adds env w last (says given does e)) ≡ n) × Counts (step w (says given does e)) (lastly env w last (says given does e)) (out + n)
    heed given none false p = (0, rw p, rw p (omega (arith, c)))
    heed given none true p =
        let f = (or_false (inside w given) (empty w none true) (or_false (inside w given || empty w none true) (falls w none) p).0).1 in
        let k : length (kept w last) ≡ 1 = rw f in
        (1, rw p, rw p (omega (arith, c, k)))
    heed given (some s) false p =
        let k = length-append (kept w last) (nops (s.cluster - w.opened)) in
        let m = length-append (kept w last ++ nops (s.cluster - w.opened)) [] in
        let n = nops_length (s.cluster - w.opened) in
        (length (kept w last) + (s.cluster - w.opened), rw p (omega (arith, k, m, n)), rw (p, ne_eqb (suc s.cluster) 0 (omega arith)) (omega (arith, c)))
    heed given (some s) true p =
        let k = length-append (kept w last) (nops (s.cluster - w.opened)) in
        let m = length-append (kept w last ++ nops (s.cluster - w.opened)) ((keeps env w last (some s) + ends) ∷ []) in
        let n = nops_length (s.cluster - w.opened) in
        (length (kept w last) + (s.cluster - w.opened) + 1, rw p (omega (arith, k, m, n)), rw p (omega (arith, c)))

    turn : (h : Heard) (t : Bool) → refused w h ≡ t → out + length (adds env w last h ++ writes env (step w h) (lastly env w last h) hs) ≡ (walked w (h ∷ hs)).count
    turn (unread given) t p = again w last out c
    turn (says given does e) true p = parts (says given does e) 0 (rw p) (rw p (omega (arith, c)))
    turn (says given does e) false p = let r = heed given does e p in parts (says given does e) r.0 r.1 r.2

  pub counted : (hs : List Heard) → From hs
  counted [] w last out c = at_end_lem w last out (eqb w.opened 0) c
  counted (h ∷ hs) w last out c = turn hs (counted hs) w last out c h (refused w h) refl

-- what is written is the program
pub program_written : (hs : List Heard) → writes (value_of hs) start 0 hs ≡ program hs
unfolding program
program_written hs = written (value_of hs) hs start 0 [] (refl, refl)

pub count : (hs : List Heard) → length (program hs) ≡ (walked start hs).count
count hs = sym (ap length (program_written hs)) ∙ (sym zeroed ∙ counted (value_of hs) hs start 0 0 refl)
  where
    zeroed : 0 + length (writes (value_of hs) start 0 hs) ≡ length (writes (value_of hs) start 0 hs)
    zeroed = omega arith
