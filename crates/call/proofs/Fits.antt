-- What run's sizes are where none of them breaks, and that a place then fits 4 bytes.
use mathlib.Core.Path.{◌≡◌}
use mathlib.Core.Bool.{true, false, ◌||◌}
use mathlib.Core.List.{List}
use Prim.Native.Nat.{ℕ, ◌^◌, ◌≤◌, ◌<◌}
use native.Mathlib.Omega.{arith}
use lib.Dec.{eqb, ltb}
use lib.ListN.{length}
use borrow.Author.Tests.{eqb-true, eq-eqb, ltb-false, le-ltb, not-false}
use Rattle.std.specs.Prelude.{Ok}
use Rattle.word.specs.Bytes.{words}
use Rattle.word.proofs.Choice.{or_false}
use Rattle.word.proofs.Bytes.{words_length}
use Rattle.isa.specs.Program.{is_start}
use Rattle.isa.proofs.Instructions.{start_inside}
use Rattle.refusals.specs.Broken.{bad_program_length}
use Rattle.loader.proofs.Refusals.{otherwise_good, refused_if_good}
use Rattle.call.specs.Run.{sizes_of}

-- what 2 tests, where none of it breaks
pub record Fits (p m s r : List ℕ) : Type 0 where
  pub program : bad_program_length p ≡ false
  pub few : length p ≤ 16384
  pub memory : length m ≤ 65536
  pub state : length s ≡ 2888
  pub room : length r ≡ 12

pub fits : (program memory state room : List ℕ) → sizes_of program memory state room ≡ Ok tt → Fits program memory state room
fits program memory state room e =
    let (p, more) = otherwise_good _ _ e in
    let (m, most) = otherwise_good _ _ more in
    let (s, r) = otherwise_good _ _ most in
    let size = refused_if_good _ _ p in
    record {
      program = size;
      few = ltb-false 16384 _ (or_false (eqb (length program) 0) _ (or_false (eqb (length program) 0 || ltb 16384 (length program)) _ size).0).1;
      memory = ltb-false _ _ (refused_if_good _ _ m);
      state = eqb-true _ _ (not-false _ (refused_if_good _ _ s));
      room = eqb-true _ _ (not-false _ (refused_if_good _ _ r));
    }

pub fit_sizes : {p m s r : List ℕ} → Fits p m s r → sizes_of p m s r ≡ Ok tt
fit_sizes {p} {m} {s} {r} f = rw (f.program, le-ltb 65536 (length m) f.memory, eq-eqb (length s) 2888 f.state, eq-eqb (length r) 12 f.room)

-- a program has at most 4,096 syllables
pub few_syllables : (l : List ℕ) → length l ≤ 16384 → length (words l) ≤ 4096
few_syllables l h = omega (arith, words_length l)

-- a place of a program is below 2^32
pub start_small : (l : List ℕ) (i : ℕ) → length l ≤ 16384 → is_start (words l) i ≡ true → i < 2 ^ 32
start_small l i few h = omega (arith, start_inside (words l) i h, words_length l)
