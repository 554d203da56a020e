-- Private to the code, nobody has to believe it: what it finds at a place of a line.
use Rattle.std.specs.Prelude.{List, [], ◌∷◌, ℕ, ◌-◌, ◌≤◌, ◌<◌, length, take, drop}
use Rattle.tokens.specs.Tokens.{Token, Word, Mark, tokens}
use Rattle.tokens.specs.declared.Next.{Next}
use Rattle.tokens.specs.declared.Next.TheVariants as next

abbrev pub next_tokens : List ℕ → Next → List Token
next_tokens line next.End = []
next_tokens line (next.Word from to) = Word (take (to - from) (drop from line)) ∷ tokens (drop to line)
next_tokens line (next.Mark b to) = Mark b ∷ tokens (drop to line)

abbrev pub Onwards : List ℕ → ℕ → Next → Type 0
Onwards line at next.End = Unit {0}
Onwards line at (next.Word from to) = (at ≤ from) × (from < to) × (to ≤ length line)
Onwards line at (next.Mark b to) = (at < to) × (to ≤ length line)
