-- What an operator's answer says, and which bytes are operators.
use mathlib.Core.Path.{◌≡◌, refl, subst}
use mathlib.Core.List.{List, ◌∷◌}
use mathlib.Core.Option.{Option as Maybe, none, some}
use Rattle.std.specs.Prelude.{Option, None, Some}
use Prim.Native.Nat.{ℕ, ◌≤◌, ◌<◌}
use lib.ListN.{length, drop}
use Rattle.tokens.specs.Tokens.{Token, Mark, tokens}
use Rattle.expressions.specs.Grammar.{first}
use Rattle.evaluation.specs.Evaluated.{Stands}

module _ {O : Type 0} (test : Token → Maybe O) (of : ℕ → O) (line : List ℕ) (at : ℕ) {r : Option (ℕ × ℕ)} where
  pub none_stands : ((x : ℕ × ℕ) → r ≡ Some x → ⊥) → Stands test of line at r → first test (tokens (drop at line)) ≡ none
  none_stands n s = go r n s
    where
      go : (r : Option (ℕ × ℕ)) → ((x : ℕ × ℕ) → r ≡ Some x → ⊥) → Stands test of line at r → first test (tokens (drop at line)) ≡ none
      go None n s = s
      go (Some x) n s = absurd (n x refl)

  pub one_stands : {b n : ℕ} → r ≡ Some (b, n) → Stands test of line at r
      → (tokens (drop at line) ≡ Mark b ∷ tokens (drop n line)) × (test (Mark b) ≡ some (of b)) × (at < n) × (n ≤ length line)
  one_stands e s = subst (λ x. Stands test of line at x) e s
