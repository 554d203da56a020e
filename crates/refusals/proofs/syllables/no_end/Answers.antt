-- Every place but the last is in order.
use mathlib.Core.Path.{◌≡◌}
use mathlib.Core.Bool.{Bool, true, false, not}
use mathlib.Core.List.{List}
use Prim.Native.Nat.{ℕ, suc, ◌+◌, ◌-◌, ◌/◌}
use native.Mathlib.Omega.{arith}
use lib.ListN.{length, get_or}
use borrow.Author.Count.{below_more}
use borrow.Author.Tests.{eq-eqb, ne_eqb}
use Rattle.std.specs.Prelude.{Some, None}
use Rattle.word.specs.Lists.{NoneBelow}
use Rattle.word.specs.Bytes.{words}
use Rattle.word.proofs.Bytes.{words_length}
use Rattle.isa.specs.Control.{place}
use Rattle.isa.specs.Lowest.{lowest}
use Rattle.isa.specs.Syllable.{ends}
use Rattle.isa.proofs.Lowest.{lowest_only}
use Rattle.refusals.specs.Broken.{no_end_at}
use Rattle.refusals.proofs.syllables.no_end.Goals as goal

module _ (p : List ℕ) (k : ℕ) (e : k + 1 ≡ length p) where
  earlier : NoneBelow (no_end_at p) k
  unfolding no_end_at
  earlier i l = rw (ne_eqb (suc i) (length p) (λ q. omega arith))

  at_last : (t : Bool) → ends (get_or p k 0) ≡ t → no_end_at p k ≡ not t
  unfolding no_end_at
  at_last t h = rw (eq-eqb (suc k) (length p) (omega arith), h)

  none : ends (get_or p k 0) ≡ true → None ≡ lowest (no_end_at p) (length p)
  none h = lowest_only (no_end_at p) (length p) (rw (← e) (below_more _ k earlier (at_last true h)))

  some : ends (get_or p k 0) ≡ false → Some (place k) ≡ lowest (no_end_at p) (length p)
  some h = lowest_only (no_end_at p) (length p) (omega arith, at_last false h, earlier)

pub syllable-requires : goal.syllable-requires
syllable-requires c = omega (arith, words_length c.args.program.now)

pub returns-then-ends : goal.returns-then-ends
returns-then-ends c =
    none (words c.args.program.now) (length c.args.program.now / 4 - 1) (omega (arith, words_length c.args.program.now)) (rw (← c.syllable.ensures, ← c.ends.ensures) c.if-ends.true)

pub returns-else-ends : goal.returns-else-ends
returns-else-ends c =
    some (words c.args.program.now) (length c.args.program.now / 4 - 1) (omega (arith, words_length c.args.program.now)) (rw (← c.syllable.ensures, ← c.ends.ensures) c.if-ends.false)
