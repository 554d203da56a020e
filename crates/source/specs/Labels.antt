-- The values of labels.
use Rattle.std.specs.Prelude.{Bool, false, List, [], ◌∷◌, ℕ, eqb, Err}
use Rattle.std.proofs.Math.Option.{Option, none, some}
use Rattle.word.specs.Choice.{pick}
use Rattle.tokens.specs.Tokens.{same}
use Rattle.values.specs.Values.{within, Value}
use Rattle.values.specs.declared.Fault.TheVariants.{Missing}
use Rattle.source.specs.Heard.{Heard, says, unread}
use Rattle.source.specs.Walk.{Walk, start, step}

abbrev pub given_by : Heard → Option (List ℕ)
given_by (says given does ends) = given
given_by (unread given) = given

abbrev pub names : List ℕ → Option (List ℕ) → Bool
names name none = false
names name (some w) = same w name

abbrev pub gives : List ℕ → Heard → Bool
gives name h = names name (given_by h)

-- "the number of syllables of all instructions that begin on lines above its own: the index of the instruction that comes next, and after the
-- last one the number of syllables"
abbrev pub next : Walk → List Heard → ℕ
next w [] = w.count
next w (h ∷ hs) = pick (eqb w.opened 0) w.count (next (step w h) hs)

-- "Where a name is given twice, its first giving has the value."
abbrev pub index_from : Walk → List Heard → List ℕ → Option ℕ
index_from w [] name = none
index_from w (h ∷ hs) name = pick (gives name h) (some (next w (h ∷ hs))) (index_from (step w h) hs name)

abbrev pub valued : Option ℕ → Value
valued none = Err Missing
valued (some n) = within n 0

abbrev pub value_of : List Heard → List ℕ → Value
value_of hs name = valued (index_from start hs name)
