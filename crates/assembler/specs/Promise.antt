-- What is proved of the assembler.
use Rattle.std.specs.Prelude.{◌≡◌, List, map, ℕ, length}
use Rattle.source.specs.Grammar.{lines_of, Reading, ReadAll}
use Rattle.source.specs.Heard.{Heard, heard}
use Rattle.source.specs.Walk.{start, walked}
use Rattle.assembler.specs.Faults.{Judges, verdict, Verdict}
use Rattle.assembler.specs.Program.{program}
use Rattle.assembler.specs.Answer.{assembled, heard_to}

-- "lowest line first, then lowest number", over all faults of the text: the verdict is the one that this allows
pub record LowestFirst : Type 0 where
  pub judges : (hs : List Heard) → Judges hs (verdict hs)
  pub one : (hs : List Heard) (v u : Verdict) → Judges hs v → Judges hs u → v ≡ u

-- a text comes to what its reading means, the one reading that the grammar gives it: of how it is read nobody has to believe anything
pub record ByGrammar : Type 0 where
  pub outcome : (text lent : List ℕ) (room : ℕ) (rs : List Reading) → ReadAll (lines_of text) rs → assembled text lent room ≡ heard_to (map heard rs) lent room

-- labels count what is written: a text has as many syllables as the walk from line to line counts
pub record Counted : Type 0 where
  pub count : (hs : List Heard) → length (program hs) ≡ (walked start hs).count
