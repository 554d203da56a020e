-- A scan of tokens, one at a time, for the end of an expression: `d` brackets are open, and a factor is to come, or else an operator may.
use mathlib.Core.Path.{◌≡◌, refl}
use mathlib.Core.Bool.{Bool, true, false}
use mathlib.Core.List.{List, [], ◌∷◌}
use Prim.Native.Nat.{ℕ, ◌+◌, ◌-◌}
use borrow.Author.Tests.{eq-eqb, ne_eqb}
use lib.Dec.{eqb}
use Rattle.word.specs.Choice.{pick}
use Rattle.tokens.specs.Tokens.{Token, Word, Mark}
use Rattle.expressions.specs.Reader.{Got, bad, got}
use Rattle.expressions.specs.Skipped.{is_factor, is_operator}

unfoldable pub scan : ℕ → Bool → List Token → Got (Unit {0})
scan d true [] = bad
scan d true (Word w ∷ ts) = pick (is_factor w) (scan d false ts) bad
scan d true (Mark b ∷ ts) = pick (eqb b 40) (pick (eqb d 16) bad (scan (d + 1) true ts)) bad
scan d false [] = pick (eqb d 0) (got tt []) bad
scan d false (Word w ∷ ts) = pick (eqb d 0) (got tt (Word w ∷ ts)) bad
scan d false (Mark b ∷ ts) = pick (is_operator b) (scan d true ts) (pick (eqb d 0) (got tt (Mark b ∷ ts)) (pick (eqb b 41) (scan (d - 1) false ts) bad))

-- an operator goes on, and nothing else does
abbrev pub operates : List Token → Bool
operates [] = false
operates (Word w ∷ ts) = false
operates (Mark b ∷ ts) = is_operator b

-- ---- one token, in the words of the code: a factor is to come

module _ (d : ℕ) {f : Bool} {s : List Token} (h : f ≡ true) where
  pub start_end : s ≡ [] → scan d f s ≡ bad
  unfolding scan
  start_end e = rw (h, e)

  module _ {w : List ℕ} {ts : List Token} (e : s ≡ Word w ∷ ts) where
    pub start_word : is_factor w ≡ true → scan d f s ≡ scan d false ts
    unfolding scan
    start_word n = rw (h, e, n)

    pub start_no_factor : is_factor w ≡ false → scan d f s ≡ bad
    unfolding scan
    start_no_factor n = rw (h, e, n)

  module _ {b : ℕ} {ts : List Token} (e : s ≡ Mark b ∷ ts) where
    pub start_other : (b ≡ 40 → ⊥) → scan d f s ≡ bad
    unfolding scan
    start_other n = rw (h, e, ne_eqb b 40 n)

    pub start_deep : b ≡ 40 → d ≡ 16 → scan d f s ≡ bad
    unfolding scan
    start_deep n k = rw (h, e, n, k)

    pub start_bracket : b ≡ 40 → (d ≡ 16 → ⊥) → scan d f s ≡ scan (d + 1) f ts
    unfolding scan
    start_bracket n k = rw (h, e, n, ne_eqb d 16 k)

-- ---- a factor stands before

pub done : (s : List Token) → operates s ≡ false → scan 0 false s ≡ got tt s
unfolding scan
done [] n = refl
done (Word w ∷ ts) n = refl
done (Mark b ∷ ts) n = rw n

pub next_done : (d : ℕ) {f : Bool} (s : List Token) → f ≡ false → operates s ≡ false → d ≡ 0 → scan d f s ≡ got tt s
next_done d s h n k = rw (h, k) (done s n)

module _ (d : ℕ) {f : Bool} {s : List Token} (h : f ≡ false) where
  pub next_operator : {b : ℕ} {ts : List Token} → s ≡ Mark b ∷ ts → is_operator b ≡ true → scan d f s ≡ scan d true ts
  unfolding scan
  next_operator e n = rw (h, e, n)

  module _ (k : d ≡ 0 → ⊥) where
    pub open_end : s ≡ [] → scan d f s ≡ bad
    unfolding scan
    open_end e = rw (h, e, ne_eqb d 0 k)

    pub open_word : {w : List ℕ} {ts : List Token} → s ≡ Word w ∷ ts → scan d f s ≡ bad
    unfolding scan
    open_word e = rw (h, e, ne_eqb d 0 k)

    module _ {b : ℕ} {ts : List Token} (e : s ≡ Mark b ∷ ts) (n : is_operator b ≡ false) where
      pub open_other : (b ≡ 41 → ⊥) → scan d f s ≡ bad
      unfolding scan
      open_other m = rw (h, e, n, ne_eqb d 0 k, ne_eqb b 41 m)

      pub open_close : b ≡ 41 → scan d f s ≡ scan (d - 1) f ts
      unfolding scan
      open_close m = rw (h, e, n, ne_eqb d 0 k, eq-eqb b 41 m)
