-- What is proved of lines: every text is read in one way, and that is the way of the grammar.
use Rattle.std.specs.Prelude.{◌≡◌, List, map, ℕ}
use Rattle.source.specs.Grammar.{Reading, Reads, ReadAll, Line, Derives, lines_of}
use Rattle.source.specs.Reader.{read_line}

pub record Unique : Type 0 where
  -- "the reading is unique"
  pub tree : (line : List ℕ) (l m : Line) → Derives line l → Derives line m → l ≡ m
  pub line : (line : List ℕ) (r s : Reading) → Reads line r → Reads line s → r ≡ s
  pub text : (text : List ℕ) (rs ss : List Reading) → ReadAll (lines_of text) rs → ReadAll (lines_of text) ss → rs ≡ ss

-- the function that reads finds exactly what the grammar derives
pub record Exact : Type 0 where
  pub line : (line : List ℕ) → Reads line (read_line line)
  pub text : (text : List ℕ) → ReadAll (lines_of text) (map read_line (lines_of text))
