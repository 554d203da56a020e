-- What `token_at` found, by its answer: for the callers' matches.
use mathlib.Core.Path.{◌≡◌}
use mathlib.Core.List.{List, [], ◌∷◌}
use Prim.Native.Nat.{ℕ, ◌-◌, ◌≤◌, ◌<◌}
use lib.ListN.{length, take, drop}
use Rattle.tokens.specs.Tokens.{Word, Mark, tokens}
use Rattle.tokens.specs.Reading.{next_tokens, Onwards}
use Rattle.tokens.specs.declared.Next.{Next}
use Rattle.tokens.specs.declared.Next.TheVariants as next

abbrev pub Finds : List ℕ → ℕ → Next → Type 0
Finds line at r = (tokens (drop at line) ≡ next_tokens line r) × Onwards line at r

module _ (line : List ℕ) (at : ℕ) {r : Next} where
  pub end_found : r ≡ next.End → Finds line at r → tokens (drop at line) ≡ []
  end_found e f = (rw e at f).0

  pub word_found : {from to : ℕ} → r ≡ next.Word from to → Finds line at r
      → (tokens (drop at line) ≡ Word (take (to - from) (drop from line)) ∷ tokens (drop to line)) × (at ≤ from) × (from < to) × (to ≤ length line)
  word_found e f = let g = rw e at f in (g.0, g.1.0, g.1.1, g.1.2)

  pub mark_found : {b to : ℕ} → r ≡ next.Mark b to → Finds line at r → (tokens (drop at line) ≡ Mark b ∷ tokens (drop to line)) × (at < to) × (to ≤ length line)
  mark_found e f = let g = rw e at f in (g.0, g.1.0, g.1.1)
