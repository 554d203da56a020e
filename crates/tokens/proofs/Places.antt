-- Laws of what stands at a place of a line.
use mathlib.Core.Path.{◌≡◌, sym, ap, ◌∙◌}
use mathlib.Core.Bool.{Bool, true, false}
use mathlib.Core.List.{List, [], ◌∷◌}
use Prim.Native.Nat.{ℕ, suc, ◌+◌, ◌-◌, ◌≤◌, ◌<◌}
use native.Mathlib.Numerals.{add-one}
use native.Mathlib.Omega.{arith}
use lib.Dec.{eqb}
use lib.ListN.{length, take, drop, get_or, take-append-drop, length-drop}
use lib.Seq.{drop-cons, drop-drop, drop-length, take_all}
use Rattle.lines.specs.Lines.{every}
use Rattle.tokens.specs.Tokens.{Word, Mark, is_blank, starts_word, goes_on, first, tokens}
use Rattle.tokens.proofs.Ways.{mark_tokens, word_tokens}

-- a part of a slice that goes to its end
pub to_end : (line : List ℕ) (at : ℕ) → take (length line - at) (drop at line) ≡ drop at line
to_end line at = take_all (length line - at) (drop at line) (rw length-drop (omega arith))

pub byte_at : (line : List ℕ) (p : ℕ) → p < length line → drop p line ≡ get_or line p 0 ∷ drop (p + 1) line
byte_at line p h = rw (add-one, drop-cons line p 0)

pub first_at : (f : ℕ → Bool) (line : List ℕ) (p : ℕ) → p < length line → first f (drop p line) ≡ f (get_or line p 0)
first_at f line p h = rw (byte_at line p h)

-- where nothing is left
pub end_at : (line : List ℕ) (p : ℕ) → p ≡ length line → tokens (drop p line) ≡ []
unfolding tokens
end_at line p e = rw (e, drop-length line)

pub comment_at : (line : List ℕ) (p : ℕ) → p < length line → get_or line p 0 ≡ 35 → tokens (drop p line) ≡ []
unfolding tokens
comment_at line p h e = rw (byte_at line p h, e)

pub mark_at : (line : List ℕ) (p : ℕ) → p < length line → starts_word (get_or line p 0) ≡ false → first is_blank (drop p line) ≡ false
    → eqb (get_or line p 0) 35 ≡ false → tokens (drop p line) ≡ Mark (get_or line p 0) ∷ tokens (drop (p + 1) line)
mark_at line p h e f g =
    rw (byte_at line p h) (mark_tokens (get_or line p 0) (drop (p + 1) line) e (sym (first_at is_blank line p h) ∙ f) g)

-- n blanks, and no blank after them
abbrev pub Skipped : List ℕ → ℕ → Type 0
Skipped s n = (n ≤ length s) × (tokens s ≡ tokens (drop n s)) × (first is_blank (drop n s) ≡ false)

pub skipped : (line : List ℕ) (at n : ℕ) → at ≤ length line → Skipped (take (length line - at) (drop at line)) n
    → (at + n ≤ length line) × (tokens (drop at line) ≡ tokens (drop (at + n) line)) × (first is_blank (drop (at + n) line) ≡ false)
skipped line at n h s =
    let t = rw to_end at s in
    let l : n ≤ length line - at = rw length-drop at t.0 in
    (omega arith, rw drop-drop at t.1, rw drop-drop at t.2)

-- n bytes that go on from b, and none after them that does
abbrev pub Run : ℕ → List ℕ → ℕ → Type 0
Run b s n = (n ≤ length s) × (every (goes_on b) (take n s) ≡ true) × (first (goes_on b) (drop n s) ≡ false)

pub word_at : (line : List ℕ) (p n : ℕ) → p < length line → starts_word (get_or line p 0) ≡ true
    → Run (get_or line p 0) (take (length line - (p + 1)) (drop (p + 1) line)) n
    → (tokens (drop p line) ≡ Word (take (p + 1 + n - p) (drop p line)) ∷ tokens (drop (p + 1 + n) line)) × (p + 1 + n ≤ length line)
word_at line p n h e r =
    let t = rw to_end at r in
    let l : n ≤ length line - (p + 1) = rw length-drop at t.0 in
    let m : p + 1 + n - p ≡ suc n = omega arith in
    let b = get_or line p 0 in
    let s = drop (p + 1) line in
    let w : tokens (b ∷ s) ≡ Word (b ∷ take n s) ∷ tokens (drop n s) =
    ap (λ x. tokens (b ∷ x)) (sym (take-append-drop n s)) ∙ word_tokens b (take n s) (drop n s) e t.1 t.2 in
    (rw (m, byte_at line p h, ← drop-drop n (p + 1) line) w, omega arith)
