-- Private to the code, nobody has to believe it: what its readers' answers say.
use Rattle.std.specs.Prelude.{◌≡◌, List, ◌∷◌, ℕ, ◌^◌, ◌≤◌, ◌<◌, eqb, length, drop, Option, None, Some, IfSome, Ok, Err}
use Rattle.std.proofs.Math.Option.{Option as Maybe, none, some}
use Rattle.word.specs.Choice.{pick}
use Rattle.tokens.specs.Tokens.{Token, Mark, tokens}
use Rattle.values.specs.Values.{Value}
use Rattle.expressions.specs.Grammar.{Sign, plus, minus, first}
use Rattle.expressions.specs.Reader.{Got, bad, got}
use Rattle.operations.specs.Meaning.{Syllable}
use Rattle.source.specs.Labels.{value_of}
use Rattle.source.specs.Reader.{hear_all}

-- the labels' values, in a text
abbrev pub labels_of : List ℕ → List ℕ → Value
labels_of text = value_of (hear_all text)

-- a value, and the tokens after it
abbrev pub got_of : Option Value → List Token → Got Value
got_of None ts = bad
got_of (Some v) ts = got v ts

-- a value, and the tokens after the place
abbrev pub read_as : List ℕ → Option (ℕ × Value) → Got Value
read_as line None = bad
read_as line (Some r) = got r.1 (tokens (drop r.0 line))

abbrev pub Inside : List ℕ → ℕ → Option (ℕ × Value) → Type 0
Inside line at r = IfSome r (λ p. (at ≤ p.0) × (p.0 ≤ length line))

-- an operator's byte, and the place after it; or none
abbrev pub Stands : {O : Type 0} → (Token → Maybe O) → (ℕ → O) → List ℕ → ℕ → Option (ℕ × ℕ) → Type 0
Stands test of line at None = first test (tokens (drop at line)) ≡ none
Stands test of line at (Some s) = (tokens (drop at line) ≡ Mark s.0 ∷ tokens (drop s.1 line)) × (test (Mark s.0) ≡ some (of s.0)) × (at < s.1) × (s.1 ≤ length line)

abbrev pub sign_of : ℕ → Sign
sign_of b = pick (eqb b 43) plus minus

-- a syllable leaves bits 31 and 30 free
abbrev pub Below : Syllable → Type 0
Below (Ok s) = s < 2 ^ 30
Below (Err w) = Unit {0}
