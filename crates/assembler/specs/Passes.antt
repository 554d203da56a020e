-- Private to the code, nobody has to believe it: what it finds as it goes from line to line of a text.
use Rattle.std.specs.Prelude.{Bool, false, not, List, [], ◌∷◌, ◌++◌, ℕ, suc, ◌+◌, ◌≤◌, eqb, length, Option, None, Some, Result, Ok, Err}
use Rattle.std.proofs.Math.Option.{Option as Maybe, none, some}
use Rattle.word.specs.Choice.{pick}
use Rattle.values.specs.Values.{Value}
use Rattle.operations.specs.Meaning.{Said, syllable_of, Syllable}
use Rattle.values.specs.declared.Fault.{Fault as BadValue}
use Rattle.values.specs.declared.Fault.TheVariants.{Missing, Outside}
use Rattle.source.specs.Grammar.{lines_of}
use Rattle.source.specs.Heard.{Heard}
use Rattle.source.specs.Walk.{Walk, start, refused, idle, step}
use Rattle.source.specs.Labels.{given_by}
use Rattle.source.specs.Reader.{hear}
use Rattle.source.specs.Seek.{seek}
use Rattle.source.specs.declared.seeking.Given.{Given}
use Rattle.evaluation.specs.Known.{hash_of}
use Rattle.evaluation.specs.Evaluated.{labels_of}
use Rattle.evaluation.specs.declared.labels.Known.{Known}
use Rattle.assembler.specs.Faults.{does_by, syllable_in, Verdict, Sound, Fault}
use Rattle.assembler.specs.Program.{ends_by, ends, nops, bits_of, if_opens}
use Rattle.assembler.specs.declared.judging.Wrong.{Wrong}
use Rattle.assembler.specs.declared.judging.Wrong.TheVariants as wrong
use Rattle.assembler.specs.declared.judging.LowestFault.{LowestFault}

-- a label of the table, and its name's hash, where a line gives one
abbrev pub hashed : Maybe (List ℕ) → List ℕ
hashed none = []
hashed (some name) = hash_of name ∷ []

abbrev pub noted : Maybe (List ℕ) → ℕ → ℕ → List Known
noted none place value = []
noted (some name) place value = record { place = place; value = value } ∷ []

abbrev pub is_at : ℕ → Option Given → Bool
is_at place None = false
is_at place (Some g) = eqb g.place place

-- a label whose first giving is not on the line at a place
abbrev pub elsewhere : List ℕ → ℕ → Maybe (List ℕ) → Bool
elsewhere text place none = false
elsewhere text place (some name) = not (is_at place (seek start 0 (lines_of text) name))

abbrev pub number_by : Syllable → ℕ
number_by (Ok s) = 0
number_by (Err Missing) = 19
number_by (Err Outside) = 20

-- the number of what is wrong with a line, and 0 where nothing is
abbrev pub number_of_wrong : Wrong → ℕ
number_of_wrong wrong.Line = 18
number_of_wrong wrong.Label = 19
number_of_wrong wrong.Value = 20

abbrev pub number_in : Result (Unit {0}) Wrong → ℕ
number_in (Ok u) = 0
number_in (Err e) = number_of_wrong e

-- the code's verdict
abbrev pub verdict_in : Result ℕ LowestFault → Verdict
verdict_in (Ok n) = Sound n
verdict_in (Err f) = Fault f.line (number_of_wrong f.wrong)

abbrev pub wrong_by : BadValue → Wrong
wrong_by Missing = wrong.Label
wrong_by Outside = wrong.Value

-- the number of the line at a place
abbrev pub number_at : List ℕ → Walk → ℕ → Heard → ℕ
number_at text w place h = pick (refused w h) 18 (pick (elsewhere text place (given_by h)) 19 (number_by (syllable_in (labels_of text) (does_by h))))

-- the verdict from a line on
abbrev pub judged_from : List ℕ → Walk → ℕ → ℕ → List (List ℕ) → Verdict
judged_from text w place i [] = Sound w.count
judged_from text w place i (l ∷ ls) =
    let later = judged_from text (step w (hear l)) (place + length l + 1) (suc i) ls in
    pick (eqb (number_at text w place (hear l)) 0) later (Fault i (number_at text w place (hear l)))

-- a fault's line is one of the text's: there is a byte before each line but the first
abbrev pub Within : ℕ → Verdict → Type 0
Within bytes (Sound n) = Unit {0}
Within bytes (Fault i k) = i ≤ bytes

-- the last syllable of an instruction is kept until it is known whether another follows: nothing is kept where none is open
abbrev pub kept : Walk → ℕ → List ℕ
kept w last = pick (eqb w.opened 0) [] (last ∷ [])

abbrev pub closing : Walk → ℕ → List ℕ
closing w last = pick (eqb w.opened 0) [] ((last + ends) ∷ [])

-- what an operation writes, and what it keeps
abbrev pub fills : Walk → ℕ → Maybe Said → List ℕ
fills w last none = []
fills w last (some s) = kept w last ++ nops (idle w s)

abbrev pub keeps : (List ℕ → Value) → Walk → ℕ → Maybe Said → ℕ
keeps env w last none = last
keeps env w last (some s) = bits_of (syllable_of env s) + if_opens w.opened s

abbrev pub ending : Bool → ℕ → List ℕ
ending ended last = pick ended ((last + ends) ∷ []) []

-- what a line writes
abbrev pub adds : (List ℕ → Value) → Walk → ℕ → Heard → List ℕ
adds env w last h = pick (refused w h) [] (fills w last (does_by h) ++ ending (ends_by h) (keeps env w last (does_by h)))

abbrev pub lastly : (List ℕ → Value) → Walk → ℕ → Heard → ℕ
lastly env w last h = pick (refused w h) last (keeps env w last (does_by h))

-- what the lines from here on write
abbrev pub writes : (List ℕ → Value) → Walk → ℕ → List Heard → List ℕ
writes env w last [] = closing w last
writes env w last (h ∷ hs) = adds env w last h ++ writes env (step w h) (lastly env w last h) hs
