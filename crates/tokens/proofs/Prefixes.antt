-- Laws of how far a test goes along bytes.
use mathlib.Core.Path.{◌≡◌, refl, sym}
use mathlib.Core.Bool.{Bool, true, false, cond}
use mathlib.Core.List.{List, [], ◌∷◌}
use Prim.Native.Nat.{ℕ, suc, ◌+◌, ◌≤◌, ◌<◌}
use native.Mathlib.Omega.{arith}
use lib.ListN.{length, take, drop}
use Rattle.std.specs.Prelude.{Option}
use Rattle.std.specs.Option.{MatchOption, unwrap_or}
use Rattle.std.specs.List.{prefix_len, AllWithin, HoldsAt}
use Rattle.std.proofs.lemmas.Iterator.{index_from_first}
use Rattle.lines.specs.Lines.{every}
use Rattle.tokens.specs.Tokens.{is_blank, first, tokens}
use Rattle.tokens.proofs.Ways.{blank_tokens}

abbrev pub Refuses : (ℕ → Bool) → ℕ → Type 0
Refuses f b = f b ≡ false

abbrev pub Takes : (ℕ → Bool) → ℕ → Type 0
Takes f b = f b ≡ true

-- what `position` finds of a test that refuses
pub prefix_found : (f : ℕ → Bool) (s : List ℕ) (r : Option ℕ)
    → MatchOption r (AllWithin (Takes f) s 0 (length s)) (λ i. (i < length s) × HoldsAt (Refuses f) s i × AllWithin (Takes f) s 0 i)
    → unwrap_or r (length s) ≡ prefix_len f s
prefix_found f s r h = sym (index_from_first (prefix_len f) (Refuses f) (Takes f) refl (λ b t e. rw e refl) (λ b t e. rw e (omega arith)) s r h)

pub prefix_short : (f : ℕ → Bool) (s : List ℕ) → prefix_len f s ≤ length s
prefix_short f [] = omega arith
prefix_short f (b ∷ s) = go (f b) (prefix_short f s)
  where
    go : (t : Bool) → prefix_len f s ≤ length s → cond t (1 + prefix_len f s) 0 ≤ length (b ∷ s)
    go true h = omega arith
    go false h = omega arith

one_more : (n : ℕ) → 1 + n ≡ suc n
one_more n = omega arith

pub prefix_run : (f : ℕ → Bool) (s : List ℕ) → (every f (take (prefix_len f s) s) ≡ true) × (first f (drop (prefix_len f s) s) ≡ false)
prefix_run f [] = (refl, refl)
prefix_run f (b ∷ s) = go (f b) refl (prefix_run f s)
  where
    go : (t : Bool) → f b ≡ t → (every f (take (prefix_len f s) s) ≡ true) × (first f (drop (prefix_len f s) s) ≡ false)
        → (every f (take (cond t (1 + prefix_len f s) 0) (b ∷ s)) ≡ true) × (first f (drop (cond t (1 + prefix_len f s) 0) (b ∷ s)) ≡ false)
    go true e h = rw (one_more (prefix_len f s), e) h
    go false e h = (refl, e)

pub blanks_skipped : (s : List ℕ) → tokens s ≡ tokens (drop (prefix_len is_blank s) s)
blanks_skipped [] = refl
blanks_skipped (b ∷ s) = go (is_blank b) refl (blanks_skipped s)
  where
    go : (t : Bool) → is_blank b ≡ t → tokens s ≡ tokens (drop (prefix_len is_blank s) s)
        → tokens (b ∷ s) ≡ tokens (drop (cond t (1 + prefix_len is_blank s) 0) (b ∷ s))
    go true e h = rw (one_more (prefix_len is_blank s), blank_tokens b s e) h
    go false e h = refl
