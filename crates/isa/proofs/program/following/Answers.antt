-- The instruction from the loop's place ends where the one from `at` does.
use mathlib.Core.Path.{◌≡◌, refl, sym, ◌∙◌}
use mathlib.Core.List.{List}
use Prim.Native.Nat.{ℕ, suc, ◌+◌, ◌*◌, ◌/◌, ◌^◌, ◌<◌}
use native.Mathlib.Numerals.{add-one}
use native.Mathlib.Omega.{arith}
use lib.ListN.{length, get_or}
use borrow.Author.Tests.{eq-eqb, ne_eqb}
use Rattle.word.specs.Bytes.{AreBytes, words}
use Rattle.word.proofs.Bytes.{words_length, words_at, word_at_sum}
use Rattle.isa.specs.Syllable.{bits}
use Rattle.isa.specs.Program.{following}
use Rattle.isa.proofs.Instructions.{following_here, following_on, following_end}
use Rattle.isa.proofs.program.following.Goals as goal

-- what the test says of the following place: a syllable's end bit is the highest of its first byte
module _ (l : List ℕ) (b : AreBytes l) (i : ℕ) (h : i < length l / 4) where
  inside : i < length (words l)
  inside = omega (arith, words_length l)

  first_byte : get_or (words l) i 0 / 2 ^ 24 ≡ get_or l (i * 4) 0
  first_byte = omega (arith, words_at l i h, word_at_sum (i * 4) l (omega arith), b (i * 4 + 1), b (i * 4 + 2), b (i * 4 + 3))

  on : get_or l (i * 4) 0 / 2 ^ 7 ≡ 0 → following (words l) i ≡ following (words l) (suc i)
  on k = following_on (words l) i inside (ne_eqb (bits 31 31 (get_or (words l) i 0)) 1 (λ e. omega (arith, first_byte)))

  here : (get_or l (i * 4) 0 / 2 ^ 7 ≡ 0 → ⊥) → following (words l) i ≡ suc i
  here k = following_here (words l) i inside (eq-eqb (bits 31 31 (get_or (words l) i 0)) 1 (omega (arith, first_byte, b (i * 4))))

pub loop-i-init : goal.loop-i-init
loop-i-init c = (omega (arith, words_length c.args.program.now), refl)

pub returns-then-program-i-ne0 : goal.returns-then-program-i-ne0
returns-then-program-i-ne0 c =
    rw add-one (sym (here c.args.program.now (λ j. (c.type_inv.program j).fits) c.loop-i.i (omega arith) (omega arith)) ∙ c.loop-i.invariant.1)

pub loop-i-preserved : goal.loop-i-preserved
loop-i-preserved c =
    (omega arith, rw add-one (sym (on c.args.program.now (λ j. (c.type_inv.program j).fits) c.loop-i.i (omega arith) (omega arith)) ∙ c.loop-i.invariant.1))

pub returns : goal.returns
returns c =
    let e : c.loop-i.i ≡ length c.args.program.now / 4 = omega (arith, c.loop-i.invariant.0) in
    sym (following_end (words c.args.program.now) _ (omega (arith, words_length c.args.program.now))) ∙ rw e at c.loop-i.invariant.1
