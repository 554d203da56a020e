-- What the reader of tokens finds is what the grammar derives.
use mathlib.Core.Path.{◌≡◌, refl, sym, subst, ap, ap₂, ◌∙◌}
use mathlib.Core.Bool.{Bool, true, false}
use mathlib.Core.List.{List, [], ◌∷◌, ◌++◌, append_assoc}
use mathlib.Core.Option.{none, some}
use Prim.Native.Nat.{ℕ, zero, suc, ◌≤◌}
use native.Mathlib.Omega.{arith}
use borrow.Author.Tests.{eqb-true}
use lib.Dec.{eqb}
use lib.ListN.{length, length-append}
use Rattle.word.specs.Choice.{pick}
use Rattle.tokens.specs.Tokens.{Token, Word, Mark}
use Rattle.expressions.specs.Grammar.{Sign, Star, Expression, Terms, no_terms, more_terms, Term, Factors, no_factors, more_factors, Factor, number, label, brackets, is_number, is_label, sign_at, star_at, first, spell_e, spell_ts, spell_t, spell_fs, spell_f, FitsE, FitsTs, FitsT, FitsFs, FitsF, Stands}
use Rattle.expressions.specs.Reader.{Got, bad, got, closed, factor_by, factors_by, term_by, terms_by, expression_by, in_brackets, read_e}
use Rattle.expressions.proofs.Got.{bad_not_got, got_same, then_got, map_got_lem, Shrinks}
use Rattle.expressions.proofs.Operators.{sign_mark, star_mark}
use Rattle.expressions.proofs.Loops.{many_sound}

pub record StandsF (d : ℕ) (f : Factor) (ts rest : List Token) : Type 0 where
  pub fits : FitsF f d
  pub spelt : ts ≡ spell_f f ++ rest

pub record StandsFs (d : ℕ) (x : Factors) (ts rest : List Token) : Type 0 where
  pub fits : FitsFs x d
  pub spelt : ts ≡ spell_fs x ++ rest
  pub no_star : first star_at rest ≡ none

pub record StandsT (d : ℕ) (t : Term) (ts rest : List Token) : Type 0 where
  pub fits : FitsT t d
  pub spelt : ts ≡ spell_t t ++ rest
  pub no_star : first star_at rest ≡ none

pub record StandsTs (d : ℕ) (x : Terms) (ts rest : List Token) : Type 0 where
  pub fits : FitsTs x d
  pub spelt : ts ≡ spell_ts x ++ rest
  pub no_sign : first sign_at rest ≡ none
  pub no_star : first star_at ts ≡ none → first star_at rest ≡ none

shorter : (ts a rest : List Token) → ts ≡ a ++ rest → length rest ≤ length ts
shorter ts a rest e = rw (e, length-append) (omega arith)

close_got : (g : Got Expression) {f : Factor} {rest : List Token} → closed g ≡ got f rest → (e : Expression) × (g ≡ got e (Mark 41 ∷ rest)) × (brackets e ≡ f)
close_got bad h = absurd (bad_not_got h)
close_got (got e []) h = absurd (bad_not_got h)
close_got (got e (Word w ∷ ts)) h = absurd (bad_not_got h)
close_got (got e (Mark b ∷ ts)) {f} {rest} h = go (eqb b 41) refl h
  where
    go : (x : Bool) → eqb b 41 ≡ x → pick x (got (brackets e) ts) bad ≡ got f rest → (i : Expression) × (got e (Mark b ∷ ts) ≡ got i (Mark 41 ∷ rest)) × (brackets i ≡ f)
    go true p h = (e, ap (got e) (ap₂ (λ (m : Token) (r : List Token). m ∷ r) (ap Mark (eqb-true b 41 p)) (got_same h).1), (got_same h).0)
    go false p h = absurd (bad_not_got h)

-- what a reader of what stands in brackets has to show
abbrev pub SoundIn : ℕ → (List Token → Got Expression) → Type 0
SoundIn d inner = (ts rest : List Token) (e : Expression) → inner ts ≡ got e rest → FitsF (brackets e) d × (ts ≡ spell_e e ++ rest)

module _ (d : ℕ) (inner : List Token → Got Expression) (sound : SoundIn d inner) where
  word_sound : (w : List ℕ) (ts : List Token) {f : Factor} {rest : List Token} (x y : Bool) → is_number w ≡ x → is_label w ≡ y
      → pick x (got (number w) ts) (pick y (got (label w) ts) bad) ≡ got f rest → StandsF d f (Word w ∷ ts) rest
  unfolding spell_f FitsF
  word_sound w ts {f} {rest} true y p q h =
      subst (λ i. StandsF d i (Word w ∷ ts) rest) (got_same h).0 (record { fits = p; spelt = ap (λ r. Word w ∷ r) (got_same h).1 })
  word_sound w ts {f} {rest} false true p q h =
      subst (λ i. StandsF d i (Word w ∷ ts) rest) (got_same h).0 (record { fits = q; spelt = ap (λ r. Word w ∷ r) (got_same h).1 })
  word_sound w ts false false p q h = absurd (bad_not_got h)

  bracket_sound : (b : ℕ) (ts : List Token) {f : Factor} {rest : List Token} (x : Bool) → eqb b 40 ≡ x
      → pick x (closed (inner ts)) bad ≡ got f rest → StandsF d f (Mark b ∷ ts) rest
  unfolding spell_f
  bracket_sound b ts {f} {rest} true p h =
      let c = close_got (inner ts) h in
      let s = sound ts (Mark 41 ∷ rest) c.0 c.1 in
      subst (λ i. StandsF d i (Mark b ∷ ts) rest) c.2
      (record { fits = s.0; spelt = ap₂ (λ (m : Token) (r : List Token). m ∷ r) (ap Mark (eqb-true b 40 p)) (s.1 ∙ sym (append_assoc (spell_e c.0) (Mark 41 ∷ []) rest)) })
  bracket_sound b ts false p h = absurd (bad_not_got h)

  pub factor_sound : (ts rest : List Token) (f : Factor) → factor_by inner ts ≡ got f rest → StandsF d f ts rest
  factor_sound [] rest f h = absurd (bad_not_got h)
  factor_sound (Word w ∷ ts) rest f h = word_sound w ts (is_number w) (is_label w) refl refl h
  factor_sound (Mark b ∷ ts) rest f h = bracket_sound b ts (eqb b 40) refl h

  factors_step : (o : Star) (f : Factor) (x : Factors) (t : Token) (ts mid rest : List Token) → star_at t ≡ some o → StandsF d f ts mid → StandsFs d x mid rest → StandsFs d (more_factors o f x) (t ∷ ts) rest
  unfolding spell_fs FitsFs
  factors_step o f x t ts mid rest e p q =
      record {
        fits = (p.fits, q.fits);
        spelt = ap₂ (λ (m : Token) (r : List Token). m ∷ r) (star_mark t o e) (p.spelt ∙ (ap (λ r. spell_f f ++ r) q.spelt ∙ sym (append_assoc (spell_f f) (spell_fs x) rest)));
        no_star = q.no_star;
      }

  factors_end : (rest : List Token) → first star_at rest ≡ none → StandsFs d no_factors rest rest
  unfolding spell_fs FitsFs
  factors_end rest e = record { fits = tt; spelt = refl; no_star = e }

  pub factors_sound : (ts rest : List Token) (x : Factors) → factors_by inner ts ≡ got x rest → StandsFs d x ts rest
  factors_sound =
      many_sound star_at no_factors more_factors (factor_by inner) (StandsF d) (StandsFs d) factor_sound (λ ts rest f p. shorter ts (spell_f f) rest p.spelt) factors_end factors_step

  pub term_sound : (ts rest : List Token) (t : Term) → term_by inner ts ≡ got t rest → StandsT d t ts rest
  unfolding spell_t FitsT
  term_sound ts rest t h =
      let a = then_got (factor_by inner ts) _ h in
      let b = map_got_lem _ (factors_by inner a.1) a.3 in
      let p = factor_sound ts a.1 a.0 a.2 in
      let q = factors_sound a.1 rest b.0 b.1 in
      subst (λ i. StandsT d i ts rest) b.2
      (record {
        fits = (p.fits, q.fits);
        spelt = p.spelt ∙ (ap (λ r. spell_f a.0 ++ r) q.spelt ∙ sym (append_assoc (spell_f a.0) (spell_fs b.0) rest));
        no_star = q.no_star;
      })

  terms_step : (o : Sign) (t : Term) (x : Terms) (m : Token) (ts mid rest : List Token) → sign_at m ≡ some o → StandsT d t ts mid → StandsTs d x mid rest → StandsTs d (more_terms o t x) (m ∷ ts) rest
  unfolding spell_ts FitsTs
  terms_step o t x m ts mid rest e p q =
      record {
        fits = (p.fits, q.fits);
        spelt = ap₂ (λ (m : Token) (r : List Token). m ∷ r) (sign_mark m o e) (p.spelt ∙ (ap (λ r. spell_t t ++ r) q.spelt ∙ sym (append_assoc (spell_t t) (spell_ts x) rest)));
        no_sign = q.no_sign;
        no_star = λ _. q.no_star p.no_star;
      }

  terms_end : (rest : List Token) → first sign_at rest ≡ none → StandsTs d no_terms rest rest
  unfolding spell_ts FitsTs
  terms_end rest e = record { fits = tt; spelt = refl; no_sign = e; no_star = λ s. s }

  pub terms_sound : (ts rest : List Token) (x : Terms) → terms_by inner ts ≡ got x rest → StandsTs d x ts rest
  terms_sound =
      many_sound sign_at no_terms more_terms (term_by inner) (StandsT d) (StandsTs d) term_sound (λ ts rest t p. shorter ts (spell_t t) rest p.spelt) terms_end terms_step

  pub expression_sound : (ts rest : List Token) (e : Expression) → expression_by inner ts ≡ got e rest → Stands d ts e rest
  unfolding spell_e FitsE
  expression_sound ts rest e h =
      let a = then_got (term_by inner ts) _ h in
      let b = map_got_lem _ (terms_by inner a.1) a.3 in
      let p = term_sound ts a.1 a.0 a.2 in
      let q = terms_sound a.1 rest b.0 b.1 in
      subst (λ i. Stands d ts i rest) b.2
      (record {
        fits = (p.fits, q.fits);
        spelt = p.spelt ∙ (ap (λ r. spell_t a.0 ++ r) q.spelt ∙ sym (append_assoc (spell_t a.0) (spell_ts b.0) rest));
        ends = record { no_sign = q.no_sign; no_star = q.no_star p.no_star };
      })

pub in_brackets_sound : (d : ℕ) → SoundIn d (in_brackets d)
unfolding in_brackets FitsF
in_brackets_sound zero ts rest e h = absurd (bad_not_got h)
in_brackets_sound (suc d) ts rest e h =
    let s = expression_sound d (in_brackets d) (in_brackets_sound d) ts rest e h in (s.fits, s.spelt)

pub read_sound : (d : ℕ) (ts rest : List Token) (e : Expression) → read_e d ts ≡ got e rest → Stands d ts e rest
read_sound d = expression_sound d (in_brackets d) (in_brackets_sound d)

pub factor_shrinks : (d : ℕ) → Shrinks (factor_by (in_brackets d))
factor_shrinks d ts rest f h = shorter ts (spell_f f) rest (factor_sound d (in_brackets d) (in_brackets_sound d) ts rest f h).spelt

pub term_shrinks : (d : ℕ) → Shrinks (term_by (in_brackets d))
term_shrinks d ts rest t h = shorter ts (spell_t t) rest (term_sound d (in_brackets d) (in_brackets_sound d) ts rest t h).spelt
