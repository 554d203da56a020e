-- Private to the code, nobody has to believe it: what it finds of a line, and where a label is given.
use Rattle.std.specs.Prelude.{Bool, false, ◌≡◌, List, [], ◌∷◌, map, ℕ, suc, ◌+◌, ◌-◌, ◌^◌, ◌≤◌, ◌<◌, length, take, drop, Option, None, Some, is_some, IfSome}
use Rattle.std.proofs.Math.Option.{Option as Maybe, none, some}
use Rattle.word.specs.Choice.{pick}
use Rattle.tokens.specs.Tokens.{Mark, tokens}
use Rattle.operations.specs.Meaning.{Said}
use Rattle.operations.specs.Parsed.{breadth, said_by}
use Rattle.operations.specs.declared.Operation.{Operation}
use Rattle.source.specs.Grammar.{lines_of}
use Rattle.source.specs.Heard.{Heard, says, unread}
use Rattle.source.specs.Walk.{Walk, step}
use Rattle.source.specs.Labels.{gives, next}
use Rattle.source.specs.Reader.{starts_colon, label_in, behind, End, wrong, ends, hear}
use Rattle.source.specs.declared.reading.Span.{Span}
use Rattle.source.specs.declared.reading.Says.{Says}
use Rattle.source.specs.declared.reading.Line.{Line}
use Rattle.source.specs.declared.seeking.Given.{Given}
use Rattle.source.specs.declared.walking.Walk.{Walk as Walked}

-- where the first line ends
pub record Cut (s : List ℕ) (n : ℕ) : Type 0 where
  pub inside : n ≤ length s
  pub last : n ≡ length s → lines_of s ≡ take n s ∷ []
  pub inner : n < length s → lines_of s ≡ take n s ∷ lines_of (drop (suc n) s)

abbrev pub Colon : List ℕ → ℕ → Option ℕ → Type 0
Colon line at None = starts_colon (tokens (drop at line)) ≡ false
Colon line at (Some n) = (tokens (drop at line) ≡ Mark 58 ∷ tokens (drop n line)) × (n ≤ length line)

abbrev pub name_in : List ℕ → Option Span → Maybe (List ℕ)
name_in line None = none
name_in line (Some s) = some (take (s.to - s.from) (drop s.from line))

-- the label that a line begins with, and the place behind its colon
pub record LabelledBy (line : List ℕ) (s : Span) (at : ℕ) : Type 0 where
  pub name : name_in line (Some s) ≡ label_in (tokens line)
  pub rest : tokens (drop at line) ≡ behind (label_in (tokens line)) (tokens line)
  pub from : s.from ≤ s.to
  pub to : s.to ≤ length line
  pub inside : at ≤ length line

abbrev pub Labelled : List ℕ → Option (Span × ℕ) → Type 0
Labelled line None = none ≡ label_in (tokens line)
Labelled line (Some l) = LabelledBy line l.0 l.1

abbrev pub end_in : Option Bool → End
end_in None = wrong
end_in (Some e) = ends e

-- what the code's line says
abbrev pub does_in : List ℕ → Option Operation → Maybe Said
does_in line None = none
does_in line (Some o) = some (said_by line o)

abbrev pub heard_by : Maybe (List ℕ) → List ℕ → Option Says → Heard
heard_by name line None = unread name
heard_by name line (Some s) = says name (does_in line s.operation) s.ends

abbrev pub heard_in : List ℕ → Line → Heard
heard_in line l = heard_by (name_in line l.label) line l.says

abbrev pub operation_of : Option Says → Option Operation
operation_of None = None
operation_of (Some s) = s.operation

abbrev pub operates : Line → Bool
operates l = is_some (operation_of l.says)

-- its cluster is one of four
abbrev pub FromFour : Line → Type 0
FromFour l = IfSome (operation_of l.says) (λ o. o.cluster < 4)

-- an operation takes two bytes, a syllable at most four
abbrev pub OperationIn : List ℕ → Operation → Type 0
OperationIn line o =
    IfSome o.asks (λ a. a.1 ≤ length line) × (o.cluster < 4) × (o.bits < 2 ^ 30) × (o.bits + breadth o.asks ≤ 2 ^ 30) × (2 ≤ length line)

abbrev pub SaysIn : List ℕ → Option Says → Type 0
SaysIn line s = IfSome (operation_of s) (OperationIn line)

-- its places are in the line, and its numbers in their fields
abbrev pub Kept : List ℕ → Line → Type 0
Kept line l = IfSome l.label (λ s. (s.from ≤ s.to) × (s.to ≤ length line)) × SaysIn line l.says

-- the code's walk
abbrev pub walk_of : Walked → Walk
walk_of w = record { count = w.count; opened = w.opened }

-- the lines from a place on
abbrev pub hear_from : List ℕ → ℕ → List Heard
hear_from text at = map hear (lines_of (drop at text))

-- the same, if there are any
abbrev pub lines_from : List ℕ → Option ℕ → List (List ℕ)
lines_from text None = []
lines_from text (Some at) = lines_of (drop at text)

-- where a label is first given, its line's place, and its value
abbrev pub seek : Walk → ℕ → List (List ℕ) → List ℕ → Option Given
seek w at [] name = None
seek w at (l ∷ ls) name =
    let later = seek (step w (hear l)) (at + length l + 1) ls name in
    pick (gives name (hear l)) (Some (record { place = at; value = next w (map hear (l ∷ ls)) })) later
