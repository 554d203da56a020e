-- The scan ends where the reader of tokens does.
use mathlib.Core.Path.{◌≡◌, refl, ◌∙◌}
use mathlib.Core.Bool.{Bool, true, false, ◌||◌}
use mathlib.Core.List.{List, [], ◌∷◌}
use mathlib.Core.Option.{some}
use Prim.Native.Nat.{ℕ, zero, suc, ◌+◌, ◌-◌}
use native.Mathlib.Omega.{arith}
use borrow.Author.Tests.{eq-eqb, ne_eqb}
use lib.Dec.{eqb}
use Rattle.word.specs.Choice.{pick}
use Rattle.tokens.specs.Tokens.{Token, Word, Mark}
use Rattle.expressions.specs.Grammar.{Sign, plus, minus, Star, star, Expression, expression, no_terms, more_terms, term, no_factors, more_factors, number, label, brackets, is_number, is_label, sign_at, star_at, Ends}
use Rattle.expressions.specs.Reader.{Got, bad, got, map_got, closed, factor_by, term_by, in_brackets, read_e, read_t, read_f}
use Rattle.expressions.proofs.Operators.{sign_mark, star_mark, no_operator}
use Rattle.expressions.proofs.Sound.{read_sound}
use Rattle.expressions.proofs.Scan.{scan, operates, done}
use Rattle.expressions.proofs.Passing.{onwards, whole_passed}

-- ---- operators

sign_scan : (d : ℕ) (o : Sign) (t : Token) (ts : List Token) → sign_at t ≡ some o → scan d false (t ∷ ts) ≡ scan d true ts
unfolding scan
sign_scan d plus t ts e = rw (sign_mark t plus e)
sign_scan d minus t ts e = rw (sign_mark t minus e)

star_scan : (d : ℕ) (o : Star) (t : Token) (ts : List Token) → star_at t ≡ some o → scan d false (t ∷ ts) ≡ scan d true ts
unfolding scan
star_scan d star t ts e = rw (star_mark t star e)

none_left : (rest : List Token) → Ends rest → operates rest ≡ false
none_left [] n = refl
none_left (Word w ∷ ts) n = refl
none_left (Mark b ∷ ts) n = no_operator b n.no_sign n.no_star

-- ---- what follows an expression: the end, or the bracket that closes

abbrev Ended : Got Expression → Type 0
Ended g = (e : Expression) (rest : List Token) → g ≡ got e rest → operates rest ≡ false

read_ended : (a : ℕ) (ts : List Token) → Ended (read_e a ts)
read_ended a ts e rest h = none_left rest (read_sound a ts rest e h).ends

end_scan : (g : Got Expression) → Ended g → onwards (scan 0 false) g ≡ map_got (λ _. tt) g
end_scan bad h = refl
end_scan (got e rest) h = done rest (h e rest refl)

close_scan : (d : ℕ) (g : Got Expression) → Ended g → onwards (scan (d + 1) false) g ≡ onwards (scan d false) (closed g)
unfolding scan
close_scan d bad h = refl
close_scan d (got e []) h = rw (ne_eqb (d + 1) 0 (omega arith))
close_scan d (got e (Word w ∷ ts)) h = rw (ne_eqb (d + 1) 0 (omega arith))
close_scan d (got e (Mark b ∷ ts)) h =
    let same : d + 1 - 1 ≡ d = omega arith in
    rw (h e (Mark b ∷ ts) refl, ne_eqb (d + 1) 0 (omega arith), same) (go (eqb b 41))
  where
    go : (x : Bool) → pick x (scan d false ts) bad ≡ onwards (scan d false) (pick x (got (brackets e) ts) bad)
    go true = refl
    go false = refl

-- ---- factors, terms and expressions, where a more brackets may be opened

abbrev Opens : ℕ → ℕ → Type 0
Opens a d = (ts : List Token) → pick (eqb d 16) bad (scan (d + 1) true ts) ≡ onwards (scan d false) (closed (in_brackets a ts))

module _ (a d : ℕ) (opens : Opens a d) where
  factor_scan : (ts : List Token) → scan d true ts ≡ onwards (scan d false) (read_f a ts)
  unfolding scan
  factor_scan [] = refl
  factor_scan (Word w ∷ ts) = go (is_number w) (is_label w)
    where
      go : (x y : Bool) → pick (x || y) (scan d false ts) bad ≡ onwards (scan d false) (pick x (got (number w) ts) (pick y (got (label w) ts) bad))
      go true y = refl
      go false true = refl
      go false false = refl
  factor_scan (Mark b ∷ ts) = go (eqb b 40)
    where
      go : (x : Bool) → pick x (pick (eqb d 16) bad (scan (d + 1) true ts)) bad ≡ onwards (scan d false) (pick x (closed (in_brackets a ts)) bad)
      go true = opens ts
      go false = refl

  term_scan : (ts : List Token) → scan d true ts ≡ onwards (scan d false) (read_t a ts)
  term_scan =
      whole_passed (scan d false) star_at no_factors more_factors (factor_by (in_brackets a)) (scan d true) (star_scan d) factor_scan term

  expression_scan : (ts : List Token) → scan d true ts ≡ onwards (scan d false) (read_e a ts)
  expression_scan =
      whole_passed (scan d false) sign_at no_terms more_terms (term_by (in_brackets a)) (scan d true) (sign_scan d) term_scan expression

opens_scan : (a d : ℕ) → a + d ≡ 16 → Opens a d
unfolding in_brackets
opens_scan zero d e ts = rw (eq-eqb d 16 (omega arith))
opens_scan (suc a) d e ts =
    rw (ne_eqb d 16 (omega arith))
    (expression_scan a (d + 1) (opens_scan a (d + 1) (omega arith)) ts ∙ close_scan d (read_e a ts) (read_ended a ts))

pub scan_read : (ts : List Token) → scan 0 true ts ≡ map_got (λ _. tt) (read_e 16 ts)
scan_read ts =
    expression_scan 16 0 (opens_scan 16 0 refl) ts ∙ end_scan (read_e 16 ts) (read_ended 16 ts)
