-- Private to the code, nobody has to believe it: the lines of a text, as they are gone through one after another.
use Rattle.std.specs.Prelude.{◌≡◌, List, ◌∷◌, ℕ, ◌+◌, ◌-◌, ◌≤◌, length, drop, Option, None, Some, IfSome, MatchOption}
use Rattle.source.specs.Grammar.{lines_of}
use Rattle.source.specs.Reader.{hear}
use Rattle.source.specs.Seek.{heard_in, lines_from}
use Rattle.source.specs.declared.reading.ReadLine.{ReadLine}
use Rattle.source.specs.declared.each_line.Lines.{Lines}

-- the lines that are left
abbrev pub left : Lines → List (List ℕ)
left it = lines_from it.text.now it.next

-- the line at a place is the first of those that are left, and the next one begins behind its newline
pub record Gives (s : Lines) (at : ℕ) (l : ReadLine) (t : Lines) : Type 0 where
  pub text : t.text.now ≡ s.text.now
  pub place : s.next ≡ Some at
  pub lines : lines_of (drop at s.text.now) ≡ l.bytes.now ∷ left t
  pub heard : heard_in l.bytes.now l.line ≡ hear l.bytes.now
  pub inside : at + length l.bytes.now ≤ length s.text.now
  pub next : IfSome t.next (λ n. n ≡ at + length l.bytes.now + 1)

abbrev pub GivesLine : Lines → Option (ℕ × ReadLine) → Lines → Type 0
GivesLine s r t = MatchOption r (s.next ≡ None) (λ i. Gives s i.0 i.1 t)

-- the bytes that are left, with a newline more
abbrev pub bytes_from : List ℕ → Option ℕ → ℕ
bytes_from text None = 0
bytes_from text (Some at) = length text - at + 1

abbrev pub bytes_left : Lines → ℕ
bytes_left it = bytes_from it.text.now it.next
