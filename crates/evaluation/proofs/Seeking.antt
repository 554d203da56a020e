-- A label has the value of the line where it is first given.
use mathlib.Core.Path.{◌≡◌, refl, sym, ap, ◌∙◌}
use mathlib.Core.Bool.{Bool, true, false}
use mathlib.Core.List.{List, [], ◌∷◌, map}
use mathlib.Core.Option.{Option as Maybe, some}
use Prim.Native.Nat.{ℕ, ◌+◌}
use lib.ListN.{length}
use Rattle.word.specs.Choice.{pick}
use Rattle.source.specs.Grammar.{lines_of}
use Rattle.source.specs.Walk.{Walk, start, step}
use Rattle.source.specs.Labels.{gives, next, index_from, valued}
use Rattle.source.specs.Reader.{hear}
use Rattle.source.specs.Seek.{seek}
use Rattle.source.specs.declared.seeking.Given.{Given}
use Rattle.std.specs.Prelude.{Option, Some}
use Rattle.evaluation.specs.Known.{seen_value}
use Rattle.evaluation.specs.Evaluated.{labels_of}

chosen : (x : Bool) (at n : ℕ) (s : Option Given) (o : Maybe ℕ) → seen_value s ≡ valued o → seen_value (pick x (Some (record { place = at; value = n })) s) ≡ valued (pick x (some n) o)
chosen true at n s o e = refl
chosen false at n s o e = e

pub seen_value_lem : (w : Walk) (at : ℕ) (ls : List (List ℕ)) (name : List ℕ) → seen_value (seek w at ls name) ≡ valued (index_from w (map hear ls) name)
seen_value_lem w at [] name = refl
seen_value_lem w at (l ∷ ls) name =
    chosen (gives name (hear l)) at (next w (map hear (l ∷ ls))) _ _ (seen_value_lem (step w (hear l)) (at + length l + 1) ls name)

pub label_value : (text name : List ℕ) {s r : Option Given} → s ≡ seek start 0 (lines_of text) name → s ≡ r → labels_of text name ≡ seen_value r
label_value text name e d = sym (ap seen_value (sym d ∙ e) ∙ seen_value_lem start 0 (lines_of text) name)
