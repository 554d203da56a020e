-- The walk is at a start, or at the program's end; and once it is past `at`, no instruction starts there.
use mathlib.Core.Path.{◌≡◌, sym, ◌∙◌}
use mathlib.Core.Logic.{⊎_elim}
use mathlib.Core.Bool.{true, false}
use mathlib.Core.List.{List}
use Prim.Native.Nat.{ℕ, ◌≤◌, ◌<◌}
use native.Mathlib.Nat.{eq-or-lt_of_le}
use native.Mathlib.Omega.{arith}
use lib.ListN.{length}
use lib.Dec.{eqb}
use borrow.Author.Tests.{eq-eqb, ne_eqb}
use Rattle.std.specs.Ordering.{is_lt, nat_cmp}
use Rattle.std.proofs.lemmas.Grind.{common_steps}
use Rattle.std.proofs.lemmas.Map.Keys.{ge_from_not_lt}
use Rattle.word.specs.Bytes.{words}
use Rattle.word.proofs.Bytes.{words_length}
use Rattle.isa.specs.Program.{is_start}
use Rattle.isa.proofs.Instructions.{start_outside, following_after, next_start, between}
use Rattle.isa.proofs.program.is_start.Goals as goal

below : (a b : ℕ) → is_lt (nat_cmp a b) ≡ true → a < b
below a b h = grind (arith, common_steps)

-- where the walk ends
reached : (p : List ℕ) (at i : ℕ) → at < length p → at ≤ i → (i < length p → is_start p i ≡ true) → (at < i → is_start p at ≡ false)
    → eqb i at ≡ is_start p at
reached p at i b h here past =
    ⊎_elim
    (λ (e : at ≡ i). eq-eqb i at (sym e) ∙ sym (rw e (here (omega arith))))
    (λ k. ne_eqb i at (λ e. omega arith) ∙ sym (past k))
    (eq-or-lt_of_le h)

pub returns-then-program-at : goal.returns-then-program-at
returns-then-program-at c =
    sym (start_outside (words c.args.program.now) c.args.at.0 (omega (arith, words_length c.args.program.now)))

pub following-i-requires : goal.following-i-requires
following-i-requires c =
    let b : c.loop-i.i.0 < c.args.at.0 = below _ _ (sym c.lt.ensures ∙ c.loop-i-test.true) in
    omega (arith, words_length c.args.program.now)

pub loop-i-smaller : goal.loop-i-smaller
loop-i-smaller c =
    let b : c.loop-i.i.0 < c.args.at.0 = below _ _ (sym c.lt.ensures ∙ c.loop-i-test.true) in
    omega (arith, c.following-i.ensures, following_after (words c.args.program.now) c.loop-i.i.0 (omega (arith, words_length c.args.program.now)))

pub loop-i-preserved : goal.loop-i-preserved
loop-i-preserved c =
    let b : c.loop-i.i.0 < c.args.at.0 = below _ _ (sym c.lt.ensures ∙ c.loop-i-test.true) in
    let h : c.loop-i.i.0 < length (words c.args.program.now) = omega (arith, words_length c.args.program.now) in
    rw c.following-i.ensures (next_start (words c.args.program.now) c.loop-i.i.0 h, between (words c.args.program.now) c.loop-i.i.0 c.args.at.0 h (omega arith))

pub returns : goal.returns
returns c =
    c.eq.ensures
    ∙ reached (words c.args.program.now) c.args.at.0 c.loop-i.i.0 (omega (arith, words_length c.args.program.now)) (ge_from_not_lt _ _ (sym c.lt.ensures ∙ c.loop-i-test.false)) c.loop-i.invariant.0 c.loop-i.invariant.1
