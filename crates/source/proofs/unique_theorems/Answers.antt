use Rattle.source.specs.Grammar.{lines_of}
use Rattle.source.proofs.OneWay.{one_tree, one_line, one_text}
use Rattle.source.proofs.unique_theorems.Goals as goal

pub returns : goal.returns
returns c = record { tree = one_tree; line = one_line; text = λ text. one_text (lines_of text) }
