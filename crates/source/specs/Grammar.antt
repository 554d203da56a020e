-- The grammar of a text, written down without a reader: its lines, and how each is spelt.
use Rattle.std.specs.Prelude.{◌≡◌, Bool, true, false, List, [], ◌∷◌, ◌++◌, ℕ}
use Rattle.std.proofs.Math.Option.{Option, none, some}
use Rattle.lines.specs.Lines.{newline, pieces}
use Rattle.tokens.specs.Tokens.{Token, Word, Mark, letters}
use Rattle.tokens.specs.Written.{Written}
use Rattle.expressions.specs.Grammar.{is_label}
use Rattle.operations.specs.Grammar.{Operation, FitsOperation, spell_operation}

-- "A newline (10) ends a line; a last line without one is a line too."
abbrev pub lines_of : List ℕ → List (List ℕ)
lines_of text = pieces newline text

-- "A line is, each part optional and in this order: a label with its colon, one operation, `;;`, a comment."
pub record Line : Type 0 where
  pub given : Option (List ℕ)
  pub operation : Option Operation
  pub ends : Bool

abbrev pub spell_given : Option (List ℕ) → List Token
spell_given none = []
spell_given (some w) = Word w ∷ Mark 58 ∷ []

abbrev pub spell_one : Option Operation → List Token
spell_one none = []
spell_one (some o) = spell_operation o

abbrev pub spell_end : Bool → List Token
spell_end false = []
spell_end true = Word (letters ";;") ∷ []

abbrev pub spell_line : Line → List Token
spell_line l = spell_given l.given ++ (spell_one l.operation ++ spell_end l.ends)

abbrev pub FitsGiven : Option (List ℕ) → Type 0
FitsGiven none = Unit {0}
FitsGiven (some w) = is_label w ≡ true

abbrev pub FitsOne : Option Operation → Type 0
FitsOne none = Unit {0}
FitsOne (some o) = FitsOperation o

-- a line of the grammar, as a tree
pub record Derives (line : List ℕ) (l : Line) : Type 0 where
  pub given : FitsGiven l.given
  pub operation : FitsOne l.operation
  pub written : Written (spell_line l) line

-- a line that begins with a label and its colon, whatever comes after
pub record Begins (line w : List ℕ) : Type 0 where
  pub rest : List Token
  pub label : is_label w ≡ true
  pub written : Written (Word w ∷ Mark 58 ∷ rest) line

-- how a line is read: as a tree, or as none, with the label that it begins with all the same
pub data Reading : Type 0 where
  read : Line → Reading
  unread : Option (List ℕ) → Reading

abbrev pub BeginsWith : List ℕ → Option (List ℕ) → Type 0
BeginsWith line none = (w : List ℕ) → Begins line w → ⊥
BeginsWith line (some w) = Begins line w

abbrev pub Reads : List ℕ → Reading → Type 0
Reads line (read l) = Derives line l
Reads line (unread given) = ((l : Line) → Derives line l → ⊥) × BeginsWith line given

pub data ReadAll : List (List ℕ) → List Reading → Type 0 where
  end : ReadAll [] []
  line : {l : List ℕ} {r : Reading} {ls : List (List ℕ)} {rs : List Reading} → Reads l r → ReadAll ls rs → ReadAll (l ∷ ls) (r ∷ rs)
