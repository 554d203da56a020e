-- Laws of the syllables' rows.
use mathlib.Core.Path.{◌≡◌, refl, sym, ◌∙◌}
use mathlib.Core.List.{List, [], ◌∷◌, ◌++◌, append_assoc, append-nil}
use Prim.Native.Nat.{ℕ, zero, suc, ◌+◌, ◌<◌}
use native.Mathlib.Numerals.{add-one}
use native.Mathlib.Omega.{arith}
use lib.ListN.{length, take}
use Rattle.word.specs.Bytes.{word_at, words}
use Rattle.text.specs.Rows.{field}
use Rattle.assembly.specs.Printed.{behind, syllable_rows}

words_more : (x more : List ℕ) → length x ≡ 4 → words (x ++ more) ≡ word_at 0 x ∷ words more
words_more [] more h = absurd (omega arith)
words_more (a ∷ []) more h = absurd (omega arith)
words_more (a ∷ b ∷ []) more h = absurd (omega arith)
words_more (a ∷ b ∷ c ∷ []) more h = absurd (omega arith)
words_more (a ∷ b ∷ c ∷ d ∷ []) more h = refl
words_more (a ∷ b ∷ c ∷ d ∷ e ∷ l) more h = absurd (omega arith)

words_none : (l : List ℕ) → length l < 4 → words l ≡ []
words_none [] h = refl
words_none (a ∷ []) h = refl
words_none (a ∷ b ∷ []) h = refl
words_none (a ∷ b ∷ c ∷ []) h = refl
words_none (a ∷ b ∷ c ∷ d ∷ l) h = absurd (omega arith)

-- what was put, and the first n syllables of the rest: all that is to be printed
pub record Put (all out : List ℕ) (n : ℕ) (rest : List ℕ) : Type 0 where
  pub says : out ++ syllable_rows (take n (words rest)) ≡ all

pub put_none : (n : ℕ) (program : List ℕ) → Put (syllable_rows (take n (words program))) [] n program
put_none n program = record { says = refl }

-- a syllable more
pub put_more : (x : List ℕ) {all out more rest : List ℕ} {m n s after : ℕ} {new : List ℕ} → Put all out n rest → rest ≡ x ++ more → length x ≡ 4 → m + 1 ≡ n
    → s ≡ word_at 0 x → after ≡ behind s → new ≡ out ++ field 8 s after → Put all new m more
put_more x {out = out} {more = more} {m = m} p r l k e f g =
    let w : words (x ++ more) ≡ word_at 0 x ∷ words more = words_more x more l in
    let q = rw (r, ← k, w, add-one) at p.says in
    rw (g, f, e) (record { says = append_assoc out (field 8 (word_at 0 x) (behind (word_at 0 x))) (syllable_rows (take m (words more))) ∙ q })

-- so many were asked for, or there are no more
pub put_all : {all out rest : List ℕ} {n : ℕ} → Put all out n rest → (0 < n → length rest < 4) → out ≡ all
put_all {all} {out} {rest} {n} p h = by n h p.says
  where
    by : (k : ℕ) → (0 < k → length rest < 4) → out ++ syllable_rows (take k (words rest)) ≡ all → out ≡ all
    by zero g e = sym (append-nil out) ∙ e
    by (suc k) g e =
        let w : words rest ≡ [] = words_none rest (g (omega arith)) in
        sym (append-nil out) ∙ rw w at e
