-- The word at four times the place is the place's syllable.
use mathlib.Core.Path.{sym, ◌∙◌}
use native.Mathlib.Omega.{arith}
use Rattle.word.proofs.Bytes.{words_length, words_at}
use Rattle.isa.proofs.stretch.syllable.Goals as goal

pub overflow_mul-at : goal.overflow_mul-at
overflow_mul-at c = omega (arith, words_length c.args.stretch.now)

pub word_at-requires : goal.word_at-requires
word_at-requires c = omega (arith, words_length c.args.stretch.now)

pub returns : goal.returns
returns c =
    c.word_at.ensures ∙ sym (words_at c.args.stretch.now c.args.at.0 (omega (arith, words_length c.args.stretch.now)))
