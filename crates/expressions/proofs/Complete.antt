-- What the grammar derives is what the reader of tokens finds. So a text has one reading.
use mathlib.Core.Path.{◌≡◌, refl, sym, ap, ◌∙◌}
use mathlib.Core.Bool.{Bool, true, false, and-false, true≢false}
use mathlib.Core.List.{List, [], ◌∷◌, ◌++◌, append_assoc}
use mathlib.Core.Option.{none}
use Prim.Native.Nat.{ℕ, zero, suc}
use native.Mathlib.Omega.{arith}
use borrow.Author.Tests.{leb-true, lt-leb, ne_eqb}
use lib.Dec.{leb}
use Rattle.tokens.specs.Tokens.{Token, Mark, is_decimal, is_letter}
use Rattle.expressions.specs.Grammar.{plus, minus, Expression, expression, Terms, no_terms, more_terms, Term, term, Factors, no_factors, more_factors, Factor, number, label, brackets, is_number, is_label, sign_byte, star_byte, sign_at, star_at, first, spell_e, spell_ts, spell_t, spell_fs, spell_f, FitsE, FitsTs, FitsT, FitsFs, FitsF, Ends, Stands}
use Rattle.expressions.specs.Reader.{got, map_got, closed, in_brackets, read_e, read_ts, read_t, read_fs, read_f, factor_by, term_by}
use Rattle.expressions.proofs.Got.{got_same, then_is}
use Rattle.expressions.proofs.Operators.{sign_at_lem, star_at_lem}
use Rattle.expressions.proofs.Loops.{many_none, many_more}
use Rattle.expressions.proofs.Sound.{factor_shrinks, term_shrinks}

-- where a term ends there is no star: not at a sign, and not where the expression ends
after_term : (x : Terms) (rest : List Token) → first star_at rest ≡ none → first star_at (spell_ts x ++ rest) ≡ none
unfolding spell_ts
after_term no_terms rest e = e
after_term (more_terms plus t x) rest e = refl
after_term (more_terms minus t x) rest e = refl

no_digit : (b : ℕ) → is_letter b ≡ true → is_decimal b ≡ false
no_digit b e = go (leb b 57) refl
  where
    go : (x : Bool) → leb b 57 ≡ x → is_decimal b ≡ false
    go true p =
        let h = leb-true b 57 p in
        let f : is_letter b ≡ false = rw (lt-leb 65 b (omega arith), lt-leb 97 b (omega arith), ne_eqb b 95 (omega arith)) in
        absurd (true≢false (sym e ∙ f))
    go false p = rw (p, and-false (leb 48 b))

-- a number is no label
not_label : (w : List ℕ) → is_label w ≡ true → is_number w ≡ false
not_label [] e = refl
not_label (b ∷ w) e = rw (no_digit b e)

closing_then : (rest : List Token) → Ends (Mark 41 ∷ rest)
closing_then rest = record { no_sign = refl; no_star = refl }

mutual
  unfolding spell_e FitsE in_brackets

  pub complete_e : (e : Expression) (d : ℕ) (rest : List Token) → FitsE e d → Ends rest → read_e d (spell_e e ++ rest) ≡ got e rest
  complete_e (expression t x) d rest h n =
      ap (read_e d) (append_assoc (spell_t t) (spell_ts x) rest)
      ∙ then_is (λ t r. map_got (expression t) (read_ts d r)) (complete_t t d (spell_ts x ++ rest) h.0 (after_term x rest n.no_star))
      (ap (map_got (expression t)) (complete_ts x d rest h.1 n))

  pub complete_ts : (x : Terms) (d : ℕ) (rest : List Token) → FitsTs x d → Ends rest → read_ts d (spell_ts x ++ rest) ≡ got x rest
  complete_ts no_terms d rest h n = many_none sign_at no_terms more_terms (term_by (in_brackets d)) rest n.no_sign
  complete_ts (more_terms s t x) d rest h n =
      many_more sign_at no_terms more_terms (term_by (in_brackets d)) (term_shrinks d) (Mark (sign_byte s)) {ts = spell_t t ++ spell_ts x ++ rest} (sign_at_lem s)
      (ap (read_t d) (append_assoc (spell_t t) (spell_ts x) rest) ∙ complete_t t d (spell_ts x ++ rest) h.0 (after_term x rest n.no_star))
      (complete_ts x d rest h.1 n)

  pub complete_t : (t : Term) (d : ℕ) (rest : List Token) → FitsT t d → first star_at rest ≡ none → read_t d (spell_t t ++ rest) ≡ got t rest
  complete_t (term f x) d rest h n =
      ap (read_t d) (append_assoc (spell_f f) (spell_fs x) rest)
      ∙ then_is (λ f r. map_got (term f) (read_fs d r)) (complete_f f d (spell_fs x ++ rest) h.0) (ap (map_got (term f)) (complete_fs x d rest h.1 n))

  pub complete_fs : (x : Factors) (d : ℕ) (rest : List Token) → FitsFs x d → first star_at rest ≡ none → read_fs d (spell_fs x ++ rest) ≡ got x rest
  complete_fs no_factors d rest h n = many_none star_at no_factors more_factors (factor_by (in_brackets d)) rest n
  complete_fs (more_factors s f x) d rest h n =
      many_more star_at no_factors more_factors (factor_by (in_brackets d)) (factor_shrinks d) (Mark (star_byte s)) {ts = spell_f f ++ spell_fs x ++ rest} (star_at_lem s)
      (ap (read_f d) (append_assoc (spell_f f) (spell_fs x) rest) ∙ complete_f f d (spell_fs x ++ rest) h.0) (complete_fs x d rest h.1 n)

  pub complete_f : (f : Factor) (d : ℕ) (rest : List Token) → FitsF f d → read_f d (spell_f f ++ rest) ≡ got f rest
  complete_f (number w) d rest h = rw h
  complete_f (label w) d rest h = rw (not_label w h, h)
  complete_f (brackets e) zero rest h = absurd h
  complete_f (brackets e) (suc d) rest h =
      ap closed (ap (read_e d) (append_assoc (spell_e e) (Mark 41 ∷ []) rest) ∙ complete_e e d (Mark 41 ∷ rest) h (closing_then rest))

pub read_complete : (d : ℕ) (ts rest : List Token) (e : Expression) → Stands d ts e rest → read_e d ts ≡ got e rest
read_complete d ts rest e s = ap (read_e d) s.spelt ∙ complete_e e d rest s.fits s.ends

-- the reading is unique
pub unique : (d : ℕ) (ts r s : List Token) (e f : Expression) → Stands d ts e r → Stands d ts f s → (e ≡ f) × (r ≡ s)
unique d ts r s e f p q = got_same (sym (read_complete d ts r e p) ∙ read_complete d ts s f q)
