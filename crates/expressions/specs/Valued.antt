-- Private to the code above, nobody has to believe it: what it makes of a word and of what stands in brackets.
use Rattle.std.specs.Prelude.{List, [], ◌∷◌, ℕ, eqb}
use Rattle.word.specs.Choice.{pick}
use Rattle.tokens.specs.Tokens.{Token, Word, Mark}
use Rattle.values.specs.Values.{Value, decimal}
use Rattle.expressions.specs.Grammar.{is_number, is_label}
use Rattle.expressions.specs.Reader.{Got, bad, got}

abbrev pub word_as : (List ℕ → Value) → List ℕ → List Token → Got Value
word_as env w ts = pick (is_number w) (got (decimal w) ts) (pick (is_label w) (got (env w) ts) bad)

abbrev pub closed_by : Got Value → Got Value
closed_by bad = bad
closed_by (got v []) = bad
closed_by (got v (Word w ∷ ts)) = bad
closed_by (got v (Mark b ∷ ts)) = pick (eqb b 41) (got v ts) bad
