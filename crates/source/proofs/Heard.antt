-- What the code's line says is what the line says.
use mathlib.Core.Path.{◌≡◌, ◌∙◌}
use mathlib.Core.List.{List}
use mathlib.Core.Option.{Option as Maybe}
use Prim.Native.Nat.{ℕ}
use lib.ListN.{drop}
use Rattle.std.specs.Prelude.{Option}
use Rattle.tokens.specs.Tokens.{tokens}
use Rattle.source.specs.Heard.{heard}
use Rattle.source.specs.Reader.{label_in, behind, end_of, body_of, read_line, hear}
use Rattle.source.specs.Seek.{name_in, heard_by, heard_in}
use Rattle.source.specs.declared.reading.Span.{Span}
use Rattle.source.specs.declared.reading.Says.{Says}

pub hear_line : (line : List ℕ) (label : Option Span) (at : ℕ) (s : Option Says)
    → (name_in line label ≡ label_in (tokens line)) × (tokens (drop at line) ≡ behind (label_in (tokens line)) (tokens line))
    → ((given : Maybe (List ℕ)) → heard_by given line s ≡ heard (body_of given (end_of (tokens (drop at line))) (tokens (drop at line))))
    → heard_in line (record { label = label; says = s }) ≡ hear line
unfolding hear read_line
hear_line line label at s p h = h (name_in line label) ∙ rw (p.0, p.1)
