-- Where the first line of a text ends: at its first newline, or with the text.
use mathlib.Core.Path.{◌≡◌, refl}
use mathlib.Core.Bool.{Bool, true, false}
use mathlib.Core.List.{List, [], ◌∷◌}
use Prim.Native.Nat.{ℕ, suc, ◌+◌, ◌<◌}
use native.Mathlib.Omega.{arith}
use lib.Dec.{eqb}
use lib.ListN.{length}
use Rattle.std.specs.List.{position, position_or_len}
use Rattle.std.specs.Prelude.{Some, None, nat_lt, cond}
use Rattle.std.specs.Option.{unwrap_or}
use borrow.Author.Tests.{ltb-false}
use Rattle.source.specs.Seek.{Cut}

cut_here : (b : ℕ) (s : List ℕ) → eqb b 10 ≡ true → Cut (b ∷ s) 0
cut_here b s e = record { inside = omega arith; last = λ n. absurd (omega arith); inner = λ _. rw e }

cut_more : (b : ℕ) (s : List ℕ) (n : ℕ) → eqb b 10 ≡ false → Cut s n → Cut (b ∷ s) (suc n)
cut_more b s n e c =
    record {
      inside = omega (arith, c.inside);
      last = λ l. let m : n ≡ length s = omega arith in rw (e, c.last m);
      inner = λ l. let m : n < length s = omega arith in rw (e, c.inner m);
    }

pub cut_first : (s : List ℕ) → Cut s (position_or_len (λ b. eqb b 10) s)
cut_first [] = record { inside = omega arith; last = λ _. refl; inner = λ l. absurd (omega arith) }
cut_first (b ∷ s) = go (eqb b 10) refl (cut_first s)
  where
    go : (t : Bool) → eqb b 10 ≡ t → Cut s (position_or_len (λ b. eqb b 10) s) → Cut (b ∷ s) (position_or_len (λ b. eqb b 10) (b ∷ s))
    go true e c = rw e (cut_here b s e)
    go false e c = let n : suc (position_or_len (λ b. eqb b 10) s) ≡ 1 + position_or_len (λ b. eqb b 10) s = omega arith in rw (e, ← n) (cut_more b s _ e c)

pub cut_length : (s : List ℕ) → Cut s (unwrap_or (position (λ b. eqb b 10) s) (length s))
cut_length s = go (nat_lt n (length s)) refl
  where
    n : ℕ
    n = position_or_len (λ b. eqb b 10) s

    go : (t : Bool) → nat_lt n (length s) ≡ t → Cut s (unwrap_or (cond t (Some n) None) (length s))
    go true e = cut_first s
    go false e =
        let c = cut_first s in
        let l = ltb-false n (length s) e in
        let m : n ≡ length s = omega (arith, c.inside) in
        rw m at c
