-- The answer to a text, by its verdict.
use mathlib.Core.Path.{◌≡◌, refl, sym, subst, ◌∙◌}
use mathlib.Core.Bool.{true, false, ◌||◌}
use mathlib.Core.List.{List}
use Prim.Native.Nat.{ℕ, ◌+◌, ◌*◌, ◌/◌, ◌≤◌}
use native.Mathlib.Omega.{arith}
use borrow.Author.Tests.{eq-eqb, ne_eqb, ltb-false}
use lib.Dec.{eqb, ltb}
use lib.ListN.{length}
use lib.Seq.{sets}
use Rattle.word.proofs.Choice.{never_both, or_false}
use Rattle.lines.specs.Lines.{word_bytes}
use Rattle.loader.specs.Answer.{answer}
use Rattle.source.specs.Walk.{start, walked}
use Rattle.source.specs.Reader.{hear_all}
use Rattle.assembler.specs.Faults.{Judges, verdict, Verdict, Sound, Fault}
use Rattle.assembler.specs.Program.{program}
use Rattle.assembler.specs.Answer.{unfit, Assembled, assembled}
use Rattle.assembler.proofs.Verdicts.{judges}
use Rattle.assembler.proofs.Counts.{count}

module _ (text lent : List ℕ) (room : ℕ) where
  pub fault_left : {v : Verdict} {i k : ℕ} → v ≡ Fault i k → v ≡ verdict (hear_all text)
      → (let a : Assembled = record { answer = answer k 0 (i + 1); program = lent } in a ≡ assembled text lent room)
  unfolding assembled
  fault_left {v} {i} {k} p e =
      let j = subst (Judges (hear_all text)) (sym e ∙ p) (judges (hear_all text)) in
      let z : eqb k 0 ≡ false = ne_eqb k 0 (λ x. never_both (rw x at j.there) refl) in
      rw (sym e ∙ p, z)

  module _ {v : Verdict} {n : ℕ} (p : v ≡ Sound n) (e : v ≡ verdict (hear_all text)) where
    pub counts : n ≡ (walked start (hear_all text)).count
    counts = (subst (Judges (hear_all text)) (sym e ∙ p) (judges (hear_all text))).1

    as_many : n ≡ length (program (hear_all text))
    as_many = counts ∙ sym (count (hear_all text))

    pub unfit_left : unfit n (length lent) ≡ true → (let a : Assembled = record { answer = answer 2 0 0; program = lent } in a ≡ assembled text lent room)
    unfolding assembled
    unfit_left u = rw (sym e ∙ p, ← as_many, u)

    pub roomless_left : unfit n (length lent) ≡ false → (room ≡ 12 → ⊥) → (let a : Assembled = record { answer = answer 2 0 3; program = lent } in a ≡ assembled text lent room)
    unfolding assembled
    roomless_left u r = rw (sym e ∙ p, ← as_many, u, ne_eqb room 12 r)

    pub good_left : unfit n (length lent) ≡ false → room ≡ 12
        → (let a : Assembled = record { answer = answer 0 n 0; program = sets lent 0 (word_bytes (program (hear_all text))) } in a ≡ assembled text lent room)
    unfolding assembled
    good_left u r = rw (sym e ∙ p, ← as_many, u, eq-eqb room 12 r)

    pub holds : unfit n (length lent) ≡ false → (walked start (hear_all text)).count * 4 ≤ length lent
    holds u =
        let f = (or_false (eqb n 0 || ltb 4096 n) (ltb (length lent / 4) n) u).1 in
        let g = ltb-false (length lent / 4) n f in
        rw (← counts) (omega arith)
