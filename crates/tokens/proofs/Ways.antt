-- How tokens are written, and the function that finds them, agree.
use mathlib.Core.Path.{◌≡◌, refl, sym, subst, ap, ◌∙◌}
use mathlib.Core.Bool.{Bool, true, false, true≢false}
use mathlib.Core.List.{List, [], ◌∷◌, ◌++◌}
use Prim.Native.Nat.{ℕ}
use borrow.Author.Tests.{eqb-true}
use lib.Dec.{eqb}
use Rattle.word.specs.Choice.{pick}
use Rattle.word.proofs.Choice.{never_both, and_true}
use Rattle.lines.specs.Lines.{every}
use Rattle.tokens.specs.Tokens.{Token, Word, Mark, is_blank, starts_word, goes_on, first, longer, tokens}
use Rattle.tokens.specs.Written.{Written, end, comment, blank, mark, word}
use Rattle.tokens.proofs.Bytes.{apart, blank_starts_none, on_starts, on_same}

pub blank_tokens : (b : ℕ) (s : List ℕ) → is_blank b ≡ true → tokens (b ∷ s) ≡ tokens s
unfolding tokens
blank_tokens b s e = rw (apart is_blank 35 b refl e, blank_starts_none b e, e)

pub mark_tokens : (b : ℕ) (s : List ℕ) → starts_word b ≡ false → is_blank b ≡ false → eqb b 35 ≡ false → tokens (b ∷ s) ≡ Mark b ∷ tokens s
unfolding tokens
mark_tokens b s e f g = rw (g, e, f)

word_step : (b : ℕ) (s : List ℕ) (t : Bool) → starts_word b ≡ true → first (goes_on b) s ≡ t → tokens (b ∷ s) ≡ pick t (longer b (tokens s)) (Word (b ∷ []) ∷ tokens s)
unfolding tokens
word_step b s t e f = rw (apart starts_word 35 b refl e, e, f)

pub word_tokens : (b : ℕ) (w s : List ℕ) → starts_word b ≡ true → every (goes_on b) w ≡ true → first (goes_on b) s ≡ false → tokens (b ∷ (w ++ s)) ≡ Word (b ∷ w) ∷ tokens s
word_tokens b [] s e f g = word_step b s false e g
word_tokens b (c ∷ w) s e f g =
    let h = and_true (goes_on b c) (every (goes_on b) w) f in
    let k = on_same b c h.0 in
    word_step b (c ∷ (w ++ s)) true e h.0 ∙ ap (longer b) (word_tokens c w s (on_starts b c h.0) (rw k h.1) (rw k g))

pub only : {ts : List Token} {s : List ℕ} → Written ts s → ts ≡ tokens s
unfolding tokens
only end = refl
only comment = refl
only (blank {b} {s = s} e h) = only h ∙ sym (blank_tokens b s e)
only (mark {b} {s = s} e f g h) = ap (λ r. Mark b ∷ r) (only h) ∙ sym (mark_tokens b s e f g)
only (word {b} {w} {s = s} e f g h) = ap (λ r. Word (b ∷ w) ∷ r) (only h) ∙ sym (word_tokens b w s e f g)

one_more : {ts : List Token} {s : List ℕ} (b : ℕ) → starts_word b ≡ true → first (goes_on b) s ≡ true → Written ts s → Written (longer b ts) (b ∷ s)
one_more b e f end = absurd (true≢false (sym f))
one_more b e f comment = absurd (true≢false (sym (on_starts b 35 f)))
one_more b e f (blank {b = c} p h) = absurd (never_both (on_starts b c f) (blank_starts_none c p))
one_more b e f (mark {b = c} p q r h) = absurd (never_both (on_starts b c f) p)
one_more b e f (word {b = c} {w} {s = s} p q r h) = let k = on_same b c f in word {b = b} {w = c ∷ w} {s = s} e (rw f (subst (λ (g : ℕ → Bool). every g w ≡ true) k q)) (rw k at r) h

pub written : (s : List ℕ) → Written (tokens s) s
unfolding tokens
written [] = end
written (b ∷ s) = go (eqb b 35) (starts_word b) (first (goes_on b) s) (is_blank b) refl refl refl refl (written s)
  where
    go : (c x y z : Bool) → eqb b 35 ≡ c → starts_word b ≡ x → first (goes_on b) s ≡ y → is_blank b ≡ z → Written (tokens s) s
        → Written (pick c [] (pick x (pick y (longer b (tokens s)) (Word (b ∷ []) ∷ tokens s)) (pick z (tokens s) (Mark b ∷ tokens s)))) (b ∷ s)
    go true x y z o p q r h = rw (eqb-true b 35 o) comment
    go false true true z o p q r h = one_more b p q h
    go false true false z o p q r h = word {b = b} {w = []} {s = s} p refl q h
    go false false y true o p q r h = blank r h
    go false false y false o p q r h = mark p r o h
