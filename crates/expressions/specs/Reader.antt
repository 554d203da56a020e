-- A reader of tokens, as a function. Nobody has to believe it: Promise says that it finds what the grammar derives, and nothing else.
use Rattle.std.specs.Prelude.{List, [], ◌∷◌, ℕ, zero, suc, eqb, length}
use Rattle.std.proofs.Math.Option.{Option, none, some}
use Rattle.word.specs.Choice.{pick}
use Rattle.tokens.specs.Tokens.{Token, Word, Mark}
use Rattle.expressions.specs.Grammar.{Expression, expression, Terms, no_terms, more_terms, Term, term, Factors, no_factors, more_factors, Factor, number, label, brackets, is_number, is_label, sign_at, star_at}

-- nothing, or a thing and the tokens after it
pub data Got (A : Type 0) : Type 0 where
  bad : Got A
  got : A → List Token → Got A

abbrev pub and_then : {A B : Type 0} → Got A → (A → List Token → Got B) → Got B
and_then bad k = bad
and_then (got a ts) k = k a ts

abbrev pub map_got : {A B : Type 0} → (A → B) → Got A → Got B
map_got f bad = bad
map_got f (got a ts) = got (f a) ts

-- any number of an operator and an item; `fuel` bounds the number
module _ {O A B : Type 0} (operator : Token → Option O) (empty : B) (more : O → A → B → B) (item : List Token → Got A) where
  abbrev pub more_at : Option O → Token → List Token → (List Token → Got B) → Got B
  more_at none t ts k = got empty (t ∷ ts)
  more_at (some o) t ts k = and_then (item ts) (λ a rest. map_got (more o a) (k rest))

  unfoldable pub more_of : ℕ → List Token → Got B
  more_of zero ts = got empty ts
  more_of (suc n) [] = got empty []
  more_of (suc n) (t ∷ ts) = more_at (operator t) t ts (more_of n)

  abbrev pub many_of : List Token → Got B
  many_of ts = more_of (length ts) ts

abbrev pub closed : Got Expression → Got Factor
closed bad = bad
closed (got e []) = bad
closed (got e (Word w ∷ ts)) = bad
closed (got e (Mark b ∷ ts)) = pick (eqb b 41) (got (brackets e) ts) bad

abbrev pub factor_by : (List Token → Got Expression) → List Token → Got Factor
factor_by inner [] = bad
factor_by inner (Word w ∷ ts) = pick (is_number w) (got (number w) ts) (pick (is_label w) (got (label w) ts) bad)
factor_by inner (Mark b ∷ ts) = pick (eqb b 40) (closed (inner ts)) bad

abbrev pub factors_by : (List Token → Got Expression) → List Token → Got Factors
factors_by inner = many_of star_at no_factors more_factors (factor_by inner)

abbrev pub term_by : (List Token → Got Expression) → List Token → Got Term
term_by inner ts = and_then (factor_by inner ts) (λ f rest. map_got (term f) (factors_by inner rest))

abbrev pub terms_by : (List Token → Got Expression) → List Token → Got Terms
terms_by inner = many_of sign_at no_terms more_terms (term_by inner)

abbrev pub expression_by : (List Token → Got Expression) → List Token → Got Expression
expression_by inner ts = and_then (term_by inner ts) (λ t rest. map_got (expression t) (terms_by inner rest))

-- what stands in brackets, at most d inside each other: nothing at 0
unfoldable pub in_brackets : ℕ → List Token → Got Expression
in_brackets zero ts = bad
in_brackets (suc d) ts = expression_by (in_brackets d) ts

abbrev pub read_e : ℕ → List Token → Got Expression
read_e d = expression_by (in_brackets d)

abbrev pub read_t : ℕ → List Token → Got Term
read_t d = term_by (in_brackets d)

abbrev pub read_f : ℕ → List Token → Got Factor
read_f d = factor_by (in_brackets d)

abbrev pub read_ts : ℕ → List Token → Got Terms
read_ts d = terms_by (in_brackets d)

abbrev pub read_fs : ℕ → List Token → Got Factors
read_fs d = factors_by (in_brackets d)
