-- A reader of lines, as a function. Nobody has to believe it: Promise says that it finds what the grammar derives, and nothing else.
use Rattle.std.specs.Prelude.{Bool, true, false, ◌&&◌, List, [], ◌∷◌, map, ℕ, eqb, drop}
use Rattle.std.proofs.Math.Option.{Option, none, some}
use Rattle.word.specs.Choice.{pick}
use Rattle.tokens.specs.Tokens.{Token, Word, Mark, tokens, letters, same}
use Rattle.expressions.specs.Grammar.{is_label}
use Rattle.expressions.specs.Reader.{Got, bad, got}
use Rattle.operations.specs.Grammar.{Operation}
use Rattle.operations.specs.Reader.{read_operation}
use Rattle.source.specs.Grammar.{Reading, read, unread, lines_of}
use Rattle.source.specs.Heard.{Heard, heard}

abbrev pub starts_colon : List Token → Bool
starts_colon [] = false
starts_colon (Word w ∷ ts) = false
starts_colon (Mark b ∷ ts) = eqb b 58

-- the label with its colon, if there is one
abbrev pub label_in : List Token → Option (List ℕ)
label_in [] = none
label_in (Mark b ∷ ts) = none
label_in (Word w ∷ ts) = pick (is_label w && starts_colon ts) (some w) none

-- the tokens after it
abbrev pub behind : Option (List ℕ) → List Token → List Token
behind none ts = ts
behind (some w) ts = drop 2 ts

-- nothing, or `;;`, and no more
pub data End : Type 0 where
  wrong : End
  ends : Bool → End

abbrev pub end_of : List Token → End
end_of [] = ends false
end_of (Mark b ∷ ts) = wrong
end_of (Word w ∷ []) = pick (same w (letters ";;")) (ends true) wrong
end_of (Word w ∷ t ∷ ts) = wrong

abbrev pub with_one : Option (List ℕ) → Operation → End → Reading
with_one given o wrong = unread given
with_one given o (ends e) = read (record { given = given; operation = some o; ends = e })

abbrev pub operated : Option (List ℕ) → Got Operation → Reading
operated given bad = unread given
operated given (got o rest) = with_one given o (end_of rest)

-- a line without an operation, or one with
abbrev pub body_of : Option (List ℕ) → End → List Token → Reading
body_of given wrong ts = operated given (read_operation ts)
body_of given (ends e) ts = read (record { given = given; operation = none; ends = e })

abbrev pub read_tokens : List Token → Reading
read_tokens ts = let given = label_in ts in let rest = behind given ts in body_of given (end_of rest) rest

unfoldable pub read_line : List ℕ → Reading
read_line line = read_tokens (tokens line)

unfoldable pub hear : List ℕ → Heard
hear line = heard (read_line line)

abbrev pub hear_all : List ℕ → List Heard
hear_all text = map hear (lines_of text)
