use mathlib.Core.Path.{refl}
use Rattle.tokens.specs.Tokens.{tokens}
use Rattle.expressions.specs.Reader.{more_of, in_brackets}
use Rattle.expressions.specs.Meaning.{value_e}
use Rattle.operations.specs.Table.{table}
use Rattle.operations.specs.Reader.{read_operation}
use Rattle.source.specs.Reader.{read_line, hear}
use Rattle.assembler.specs.Faults.{verdict}
use Rattle.assembler.specs.Program.{program}
use Rattle.assembler.specs.Answer.{assembled}
use Rattle.assembler.proofs.examples.Goals as goal

pub returns : goal.returns
unfolding tokens more_of in_brackets value_e table read_operation read_line hear verdict program assembled
returns c =
    record {
      stop = refl;
      sub = refl;
      negative = refl;
      compared = refl;
      forward = refl;
      idle = refl;
      left = refl;
      star = refl;
      deep = refl;
      deeper = refl;
      halt = refl;
      fallen = refl;
      twice = refl;
      lowest = refl;
      step = refl;
      nothing = refl;
    }
