-- What a reader's answer says.
use mathlib.Core.Path.{◌≡◌, sym, subst, ap, ◌∙◌}
use mathlib.Core.List.{List}
use Prim.Native.Nat.{ℕ, ◌≤◌}
use native.Mathlib.Omega.{arith}
use lib.ListN.{length, drop}
use Rattle.tokens.specs.Tokens.{tokens}
use Rattle.values.specs.Values.{Value}
use Rattle.expressions.specs.Reader.{Got, bad, got}
use Rattle.evaluation.specs.Evaluated.{read_as, Inside}
use Rattle.std.specs.Prelude.{Option, None, Some}

module _ (line : List ℕ) {g : Got Value} {r : Option (ℕ × Value)} where
  pub was_bad : r ≡ None → read_as line r ≡ g → g ≡ bad
  was_bad e f = sym f ∙ ap (read_as line) e

  pub was_at : {n : ℕ} {v : Value} → r ≡ Some (n, v) → read_as line r ≡ g → g ≡ got v (tokens (drop n line))
  was_at e f = sym f ∙ ap (read_as line) e

pub inside_at : (line : List ℕ) (at : ℕ) {r : Option (ℕ × Value)} {n : ℕ} {v : Value} → r ≡ Some (n, v) → Inside line at r → (at ≤ n) × (n ≤ length line)
inside_at line at e i = subst (λ x. Inside line at x) e i

pub inside_more : (line : List ℕ) (at later : ℕ) (r : Option (ℕ × Value)) → at ≤ later → Inside line later r → Inside line at r
inside_more line at later None h i = tt
inside_more line at later (Some p) h i = (omega arith, i.1)
