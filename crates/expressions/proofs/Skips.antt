-- What the loop of `skip` keeps, and what it answers from that.
use mathlib.Core.Path.{◌≡◌, sym, ◌∙◌}
use mathlib.Core.Bool.{Bool, true, false}
use mathlib.Core.List.{List}
use Prim.Native.Nat.{ℕ, ◌≤◌, ◌<◌}
use native.Mathlib.Omega.{arith}
use lib.ListN.{length, drop}
use Rattle.std.specs.Prelude.{Option, Some, None}
use Rattle.tokens.specs.Tokens.{tokens}
use Rattle.expressions.specs.Reader.{bad, got, map_got, read_e}
use Rattle.expressions.specs.Skipped.{passed, Within}
use Rattle.expressions.proofs.Scan.{scan}
use Rattle.expressions.proofs.Scanned.{scan_read}

-- at p, with d brackets open
pub record Skips (line : List ℕ) (at p d : ℕ) (f : Bool) : Type 0 where
  pub same : scan 0 true (tokens (drop at line)) ≡ scan d f (tokens (drop p line))
  pub few : d ≤ 16
  pub from : at ≤ p
  pub inside : p ≤ length line
  pub some : f ≡ false → at < p

-- `skip`'s contract
abbrev pub Ended : List ℕ → ℕ → Option ℕ → Type 0
Ended line at r = (passed line r ≡ map_got (λ _. tt) (read_e 16 (tokens (drop at line)))) × Within line at r

module _ (line : List ℕ) (at : ℕ) {p d : ℕ} {f : Bool} (i : Skips line at p d f) where
  pub nowhere : scan d f (tokens (drop p line)) ≡ bad → Ended line at None
  nowhere e = (sym (i.same ∙ e) ∙ scan_read (tokens (drop at line)), tt)

  pub ended : f ≡ false → scan d f (tokens (drop p line)) ≡ got tt (tokens (drop p line)) → Ended line at (Some p)
  ended h e = (sym (i.same ∙ e) ∙ scan_read (tokens (drop at line)), (i.some h, i.inside))

  pub further : {q e : ℕ} {g : Bool} → scan d f (tokens (drop p line)) ≡ scan e g (tokens (drop q line)) → p < q → q ≤ length line → e ≤ 16 → Skips line at q e g
  further h m n k =
      record { same = i.same ∙ h; few = k; from = omega arith; inside = n; some = λ _. omega arith }
