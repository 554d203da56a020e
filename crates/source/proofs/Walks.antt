-- Laws of a step from line to line.
use mathlib.Core.Path.{◌≡◌}
use mathlib.Core.Bool.{false}
use mathlib.Core.List.{List}
use Prim.Native.Nat.{ℕ}
use Rattle.std.specs.Prelude.{Some}
use Rattle.source.specs.Walk.{refused, operated, ended, step}
use Rattle.source.specs.Seek.{does_in, heard_in, walk_of}
use Rattle.source.specs.declared.reading.Says.{Says}
use Rattle.source.specs.declared.reading.Line.{Line}
use Rattle.source.specs.declared.walking.Walk.{Walk as Walked}

module _ (w : Walked) (l : Line) (line : List ℕ) where
  pub step_says : {s : Says} → l.says ≡ Some s → false ≡ refused (walk_of w) (heard_in line l) → {v : Walked} → walk_of v ≡ operated (walk_of w) (does_in line s.operation)
      → ended s.ends (walk_of v) ≡ step (walk_of w) (heard_in line l)
  step_says e f o = rw (← f, e, o)
