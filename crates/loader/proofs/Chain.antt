-- What the tests rely on: those before them passed.
use mathlib.Core.Path.{◌≡◌, sym, ◌∙◌}
use mathlib.Core.Logic.{◌≢◌}
use mathlib.Core.Bool.{Bool, false, not, ◌||◌, ◌&&◌}
use mathlib.Core.List.{List}
use Prim.Native.Nat.{ℕ, ◌%◌, ◌≤◌, ◌<◌}
use native.Mathlib.Omega.{arith}
use lib.Dec.{eqb, ltb, leb}
use lib.ListN.{length}
use borrow.Author.Tests.{ltb-false, eqb-true, eqb-false, not-false}
use Rattle.std.specs.Prelude.{Option, None}
use Rattle.word.specs.Bytes.{words}
use Rattle.word.specs.Lists.{NoneBelow}
use Rattle.word.proofs.Bytes.{words_length}
use Rattle.word.proofs.Choice.{or_false}
use Rattle.isa.specs.Syllable.{opcode, opens, source, is_copy}
use Rattle.isa.specs.Control.{is_control}
use Rattle.isa.specs.Lowest.{lowest}
use Rattle.isa.specs.Program.{spot_at, cluster}
use Rattle.isa.specs.declared.Place.{Place}
use Rattle.isa.proofs.Lowest.{lowest_is}
use Rattle.refusals.specs.Broken.{bad_program_length, bad_cluster_at}

-- a test that found no place passes everywhere
none_found : (f : ℕ → Bool) (n : ℕ) → lowest f n ≡ None → NoneBelow f n
none_found f n e = rw e at (lowest_is f n)

second : (a b c d : Bool) → a || b || c || d ≡ false → b ≡ false
second a b c d e = (or_false a b (or_false (a || b) c (or_false (a || b || c) d e).0).0).1

-- where 5 passes no instruction opens more than four clusters
pub few_opened : (C : ℕ) (p : List ℕ) {f : Option Place} → f ≡ lowest (bad_cluster_at C p) (length p) → f ≡ None → C ≤ 4
    → (j : ℕ) → j < length p → (spot_at p j).opened ≤ 4
unfolding bad_cluster_at
few_opened C p is e few j h =
    let x = spot_at p j in
    let s = x.syllable in
    let passes =
    second (x.first && not (opens s)) (ltb C x.opened) (is_control s && not (eqb (cluster x) 0))
    (is_copy (opcode s) && (eqb (source s) (cluster x) || leb C (source s)))
    (none_found (bad_cluster_at C p) (length p) (sym is ∙ e) j h) in
    omega (arith, ltb-false C x.opened passes)

-- a program with a good size has a syllable
pub some_syllable : (l : List ℕ) → bad_program_length l ≡ false → 0 < length (words l)
some_syllable l e =
    let n = length l in
    let sized = or_false (eqb n 0 || ltb 16384 n) (not (eqb (n % 4) 0)) e in
    let some : n ≢ 0 = eqb-false n 0 (or_false (eqb n 0) (ltb 16384 n) sized.0).0 in
    let whole : n % 4 ≡ 0 = eqb-true (n % 4) 0 (not-false (eqb (n % 4) 0) sized.1) in
    omega (arith, words_length l)
