use Rattle.source.specs.Grammar.{lines_of}
use Rattle.source.proofs.Sound.{line_sound}
use Rattle.source.proofs.OneWay.{all_read}
use Rattle.source.proofs.exact_theorems.Goals as goal

pub returns : goal.returns
returns c = record { line = line_sound; text = λ text. all_read (lines_of text) }
