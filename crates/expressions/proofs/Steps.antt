-- The value of an expression, step by step: the rest of an expression or of a term after a value, and a factor by its first token.
use mathlib.Core.Path.{◌≡◌, refl, sym, ap, ◌∙◌}
use mathlib.Core.Bool.{Bool, true, false}
use mathlib.Core.List.{List, [], ◌∷◌}
use mathlib.Core.Option.{none, some}
use Prim.Native.Nat.{ℕ, suc, ◌-◌}
use native.Mathlib.Omega.{arith}
use borrow.Author.Tests.{ne_eqb}
use lib.Dec.{eqb}
use Rattle.word.specs.Choice.{pick}
use Rattle.tokens.specs.Tokens.{Token, Word, Mark}
use Rattle.values.specs.Values.{Value}
use Rattle.expressions.specs.Grammar.{Sign, Star, Expression, expression, no_terms, more_terms, term, no_factors, more_factors, number, label, brackets, is_number, is_label, sign_at, star_at, first}
use Rattle.expressions.specs.Meaning.{signed, starred, value_e, value_ts, value_t, value_fs, value_f}
use Rattle.expressions.specs.Reader.{Got, bad, got, map_got, closed, read_e, read_ts, read_t, read_fs, read_f, factor_by, term_by, in_brackets}
use Rattle.expressions.specs.Valued.{word_as, closed_by}
use Rattle.expressions.proofs.Sound.{factor_shrinks, term_shrinks}
use Rattle.expressions.proofs.Runs.{run_end, run_step, run_bad, head_got, head_bad}

module _ (env : List ℕ → Value) (d : ℕ) where
  -- the rest of an expression, after a value
  abbrev pub terms_run : Value → List Token → Got Value
  terms_run v ts = map_got (λ x. value_ts env x v) (read_ts d ts)

  pub terms_end : (v : Value) (ts : List Token) → first sign_at ts ≡ none → terms_run v ts ≡ got v ts
  unfolding value_ts
  terms_end = run_end sign_at no_terms more_terms (term_by (in_brackets d)) (term_shrinks d) (value_t env) (value_ts env) signed (λ v. refl) (λ o a x v. refl)

  pub terms_step : {o : Sign} {w : Value} {mid : List Token} (v : Value) (t : Token) (ts : List Token) → sign_at t ≡ some o
      → map_got (value_t env) (read_t d ts) ≡ got w mid → terms_run v (t ∷ ts) ≡ terms_run (signed o v w) mid
  unfolding value_ts
  terms_step = run_step sign_at no_terms more_terms (term_by (in_brackets d)) (term_shrinks d) (value_t env) (value_ts env) signed (λ v. refl) (λ o a x v. refl)

  pub terms_bad : {o : Sign} (v : Value) (t : Token) (ts : List Token) → sign_at t ≡ some o → map_got (value_t env) (read_t d ts) ≡ bad → terms_run v (t ∷ ts) ≡ bad
  unfolding value_ts
  terms_bad = run_bad sign_at no_terms more_terms (term_by (in_brackets d)) (term_shrinks d) (value_t env) (value_ts env) signed (λ v. refl) (λ o a x v. refl)

  pub expression_got : {w : Value} {mid : List Token} (ts : List Token) → map_got (value_t env) (read_t d ts) ≡ got w mid → map_got (value_e env) (read_e d ts) ≡ terms_run w mid
  unfolding value_e
  expression_got =
      head_got sign_at no_terms more_terms (term_by (in_brackets d)) (term_shrinks d) (value_t env) (value_ts env) signed (λ v. refl) (λ o a x v. refl) expression (value_e env) (λ a x. refl)

  pub expression_bad : (ts : List Token) → map_got (value_t env) (read_t d ts) ≡ bad → map_got (value_e env) (read_e d ts) ≡ bad
  unfolding value_e
  expression_bad =
      head_bad sign_at no_terms more_terms (term_by (in_brackets d)) (term_shrinks d) (value_t env) (value_ts env) signed (λ v. refl) (λ o a x v. refl) expression (value_e env) (λ a x. refl)

  -- the rest of a term, after a value
  abbrev pub factors_run : Value → List Token → Got Value
  factors_run v ts = map_got (λ x. value_fs env x v) (read_fs d ts)

  pub factors_end : (v : Value) (ts : List Token) → first star_at ts ≡ none → factors_run v ts ≡ got v ts
  unfolding value_fs
  factors_end = run_end star_at no_factors more_factors (factor_by (in_brackets d)) (factor_shrinks d) (value_f env) (value_fs env) starred (λ v. refl) (λ o a x v. refl)

  pub factors_step : {o : Star} {w : Value} {mid : List Token} (v : Value) (t : Token) (ts : List Token) → star_at t ≡ some o
      → map_got (value_f env) (read_f d ts) ≡ got w mid → factors_run v (t ∷ ts) ≡ factors_run (starred o v w) mid
  unfolding value_fs
  factors_step = run_step star_at no_factors more_factors (factor_by (in_brackets d)) (factor_shrinks d) (value_f env) (value_fs env) starred (λ v. refl) (λ o a x v. refl)

  pub factors_bad : {o : Star} (v : Value) (t : Token) (ts : List Token) → star_at t ≡ some o → map_got (value_f env) (read_f d ts) ≡ bad → factors_run v (t ∷ ts) ≡ bad
  unfolding value_fs
  factors_bad = run_bad star_at no_factors more_factors (factor_by (in_brackets d)) (factor_shrinks d) (value_f env) (value_fs env) starred (λ v. refl) (λ o a x v. refl)

  pub term_got : {w : Value} {mid : List Token} (ts : List Token) → map_got (value_f env) (read_f d ts) ≡ got w mid → map_got (value_t env) (read_t d ts) ≡ factors_run w mid
  unfolding value_t
  term_got =
      head_got star_at no_factors more_factors (factor_by (in_brackets d)) (factor_shrinks d) (value_f env) (value_fs env) starred (λ v. refl) (λ o a x v. refl) term (value_t env) (λ a x. refl)

  pub term_bad : (ts : List Token) → map_got (value_f env) (read_f d ts) ≡ bad → map_got (value_t env) (read_t d ts) ≡ bad
  unfolding value_t
  term_bad =
      head_bad star_at no_factors more_factors (factor_by (in_brackets d)) (factor_shrinks d) (value_f env) (value_fs env) starred (λ v. refl) (λ o a x v. refl) term (value_t env) (λ a x. refl)

-- a factor by its first token
module _ (env : List ℕ → Value) where
  pub factor_end : (d : ℕ) {s : List Token} → s ≡ [] → bad ≡ map_got (value_f env) (read_f d s)
  factor_end d e = rw e

  pub factor_word : (d : ℕ) (w : List ℕ) (ts : List Token) → word_as env w ts ≡ map_got (value_f env) (read_f d (Word w ∷ ts))
  unfolding value_f
  factor_word d w ts = go (is_number w) (is_label w)
    where
      go : (x y : Bool) → pick x (got (value_f env (number w)) ts) (pick y (got (env w) ts) bad) ≡ map_got (value_f env) (pick x (got (number w) ts) (pick y (got (label w) ts) bad))
      go true y = refl
      go false true = refl
      go false false = refl

  pub factor_other : (d b : ℕ) (ts : List Token) → (b ≡ 40 → ⊥) → bad ≡ map_got (value_f env) (read_f d (Mark b ∷ ts))
  factor_other d b ts h = rw (ne_eqb b 40 h)

  pub factor_deep : (d b : ℕ) (ts : List Token) → b ≡ 40 → d ≡ 0 → bad ≡ map_got (value_f env) (read_f d (Mark b ∷ ts))
  unfolding in_brackets
  factor_deep d b ts e f = rw (e, f)

  closed_value : (g : Got Expression) → closed_by (map_got (value_e env) g) ≡ map_got (value_f env) (closed g)
  unfolding value_f
  closed_value bad = refl
  closed_value (got e []) = refl
  closed_value (got e (Word w ∷ ts)) = refl
  closed_value (got e (Mark b ∷ ts)) = go (eqb b 41)
    where
      go : (x : Bool) → pick x (got (value_e env e) ts) bad ≡ map_got (value_f env) (pick x (got (brackets e) ts) bad)
      go true = refl
      go false = refl

  pub factor_bracket : (d b : ℕ) (ts : List Token) → b ≡ 40 → (d ≡ 0 → ⊥) → closed_by (map_got (value_e env) (read_e (d - 1) ts)) ≡ map_got (value_f env) (read_f d (Mark b ∷ ts))
  unfolding in_brackets
  factor_bracket d b ts e h =
      let n : suc (d - 1) ≡ d = omega arith in
      closed_value (read_e (d - 1) ts) ∙ (ap (λ (k : ℕ). map_got (value_f env) (read_f (suc (d - 1)) (Mark k ∷ ts))) (sym e) ∙ ap (λ (k : ℕ). map_got (value_f env) (read_f k (Mark b ∷ ts))) n)
