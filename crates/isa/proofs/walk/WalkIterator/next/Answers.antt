-- One syllable fewer is left.
use mathlib.Core.Path.{◌≡◌, refl}
use mathlib.Core.List.{List, [], ◌∷◌}
use Prim.Native.Nat.{ℕ, ◌-◌, ◌≤◌, ◌<◌}
use native.Mathlib.Omega.{arith}
use lib.ListN.{length, take, drop, length-drop}
use lib.Seq.{take_all}
use Rattle.std.proofs.Common.{rules}
use Rattle.word.specs.Bytes.{word_at, words}
use Rattle.isa.specs.Program.{spots_from, next_spot}
use Rattle.isa.specs.declared.Spot.{Spot}
use Rattle.isa.proofs.walk.WalkIterator.next.Goals as goal

first : (l : List ℕ) → 4 ≤ length l → words l ≡ word_at 0 l ∷ words (drop 4 l)
first [] h = absurd (omega arith)
first (a ∷ []) h = absurd (omega arith)
first (a ∷ b ∷ []) h = absurd (omega arith)
first (a ∷ b ∷ c ∷ []) h = absurd (omega arith)
first (a ∷ b ∷ c ∷ d ∷ l) h = refl

fewer : (l : List ℕ) (x y : Spot) (n : ℕ) → 4 ≤ length l → n ≡ word_at 0 l → y ≡ next_spot x n
    → length (spots_from y.last y.opened (words (take (length l - 4) (drop 4 l)))) < length (spots_from x.last x.opened (words l))
fewer l x y n h i e = rw (take_all (length l - 4) (drop 4 l) (omega (arith, length-drop 4 l)), first l h, e, i) (omega arith)

pub returns-clause-goes : goal.returns-clause-goes
returns-clause-goes c = record {
  on = λ _. (search rules, search rules, fewer c.args.self.now.left.now c.args.self.now.before c.next_spot-x.result c.word_at.result (omega arith) c.word_at.ensures c.next_spot-x.ensures);
  keeps = search rules;
  rests = search rules;
}
