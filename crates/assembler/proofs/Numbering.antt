-- The number of a line, by what the code's line says.
use mathlib.Core.Path.{◌≡◌, refl}
use mathlib.Core.List.{List}
use mathlib.Core.Option.{Option as Maybe}
use Prim.Native.Nat.{ℕ}
use Rattle.std.specs.Prelude.{Option, None, Some}
use Rattle.source.specs.Labels.{given_by}
use Rattle.source.specs.Seek.{name_in, does_in, operation_of, heard_by, heard_in}
use Rattle.source.specs.declared.reading.Says.{Says}
use Rattle.source.specs.declared.reading.Line.{Line}
use Rattle.assembler.specs.Faults.{does_by}

module _ (line : List ℕ) (l : Line) where
  -- a line gives its label, as it should be or not
  pub given_is : given_by (heard_in line l) ≡ name_in line l.label
  given_is = go (name_in line l.label) l.says
    where
      go : (name : Maybe (List ℕ)) (s : Option Says) → given_by (heard_by name line s) ≡ name
      go name None = refl
      go name (Some s) = refl

  pub does_is : does_by (heard_in line l) ≡ does_in line (operation_of l.says)
  does_is = go (name_in line l.label) l.says
    where
      go : (name : Maybe (List ℕ)) (s : Option Says) → does_by (heard_by name line s) ≡ does_in line (operation_of s)
      go name None = refl
      go name (Some s) = refl
