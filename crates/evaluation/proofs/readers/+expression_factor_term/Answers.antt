-- The readers call each other: depth falls where a bracket opens, and within a depth a reader calls the one below it. A loop's invariant says that
-- what is left to read, after the value so far, comes to what the reader is to answer.
use mathlib.Core.Path.{◌≡◌, sym, ap, ◌∙◌}
use mathlib.Core.List.{List}
use Prim.Native.Nat.{ℕ, ◌-◌}
use native.Mathlib.Omega.{arith}
use lib.ListN.{take, drop}
use Rattle.std.proofs.Common.{rules}
use Rattle.std.specs.Prelude.{Option, None}
use Rattle.tokens.specs.Tokens.{Token, Mark, tokens}
use Rattle.tokens.proofs.Found.{mark_found, word_found}
use Rattle.values.specs.Values.{Value}
use Rattle.expressions.specs.Grammar.{sign_at, star_at, star}
use Rattle.expressions.specs.Meaning.{value_f}
use Rattle.expressions.specs.Reader.{map_got, read_f}
use Rattle.expressions.specs.Valued.{closed_by}
use Rattle.expressions.proofs.Steps.{terms_run, terms_end, terms_step, terms_bad, expression_got, factors_run, factors_end, factors_step, factors_bad, term_got, factor_word, factor_other, factor_deep, factor_bracket}
use Rattle.evaluation.specs.Evaluated.{labels_of, got_of, sign_of}
use Rattle.evaluation.proofs.Answers.{was_bad, was_at, inside_at, inside_more}
use Rattle.evaluation.proofs.Operators.{none_stands, one_stands}
use Rattle.evaluation.proofs.readers.+expression_factor_term.Goals as goal
use Rattle.evaluation.proofs.readers.+expression_factor_term.Goals.{factor-then-b-ne40-via-then-b-ne40, factor-then-b-ne40-via-else-b-ne40+then-depth-eq0}

pub expression-loop-b-init : goal.expression-loop-b-init
expression-loop-b-init t c =
    let i = inside_at c.args.line.now c.args.at c.in_ok-p.was c.term.ensures.1 in
    (i.0, i.1, expression_got (labels_of c.args.labels.now.text.now) c.args.depth (tokens (drop c.args.at c.args.line.now)) (was_at c.args.line.now c.in_ok-p.was c.term.ensures.0))

pub expression-returns : goal.expression-returns
expression-returns t c =
    let e = none_stands sign_at sign_of c.args.line.now c.loop-b.p c.in_default.not-Some c.sign_at.ensures in
    (sym (c.loop-b.invariant.2 ∙ terms_end (labels_of c.args.labels.now.text.now) c.args.depth c.loop-b.v _ e), (c.loop-b.invariant.0, c.loop-b.invariant.1))

pub expression-returns-in_err-n : goal.expression-returns-in_err-n
expression-returns-in_err-n t c =
    let env = labels_of c.args.labels.now.text.now in
    let f = one_stands sign_at sign_of c.args.line.now c.loop-b.p c.in-Some.is c.sign_at.ensures in
    let e = was_bad c.args.line.now c.in_err-n.was c.term-in-Some.ensures.0 in
    let z : c.from_residual-in_err-n.result ≡ None = search rules in
    (rw z (sym (c.loop-b.invariant.2 ∙ (ap (terms_run env c.args.depth c.loop-b.v) f.0 ∙ terms_bad env c.args.depth c.loop-b.v (Mark c.in-Some.b) (tokens (drop c.in-Some.q c.args.line.now)) f.1 e))), rw z tt)

pub expression-loop-b-preserved : goal.expression-loop-b-preserved
expression-loop-b-preserved t c =
    let env = labels_of c.args.labels.now.text.now in
    let f = one_stands sign_at sign_of c.args.line.now c.loop-b.p c.in-Some.is c.sign_at.ensures in
    let i = inside_at c.args.line.now c.in-Some.q c.in_ok-n.was c.term-in-Some.ensures.1 in
    let e = was_at c.args.line.now c.in_ok-n.was c.term-in-Some.ensures.0 in
    let s = terms_step env c.args.depth c.loop-b.v (Mark c.in-Some.b) (tokens (drop c.in-Some.q c.args.line.now)) f.1 e in
    let j = ap (λ (x : Value). terms_run env c.args.depth x (tokens (drop c.in_ok-n.n c.args.line.now))) (sym c.joined-v.ensures) in
    (omega arith, i.1, c.loop-b.invariant.2 ∙ (ap (terms_run env c.args.depth c.loop-b.v) f.0 ∙ (s ∙ j)))

pub factor-returns-in_err-v-in-Word : goal.factor-returns-in_err-v-in-Word
factor-returns-in_err-v-in-Word t c =
    let env = labels_of c.args.labels.now.text.now in
    let f = word_found c.args.line.now c.args.at c.in-Word.is c.token_at.ensures in
    let ts = tokens (drop c.in-Word.to c.args.line.now) in
    let e = sym (ap (λ (r : Option Value). got_of r ts) c.in_err-v-in-Word.was) ∙ c.word.ensures ts in
    let z : c.from_residual.result ≡ None = search rules in
    (rw z (e ∙ (factor_word env c.args.depth (take (c.in-Word.to - c.in-Word.from) (drop c.in-Word.from c.args.line.now)) ts ∙ ap (λ (s : List Token). map_got (value_f env) (read_f c.args.depth s)) (sym f.0))), rw z tt)

pub factor-returns-in_ok-v-in-Word : goal.factor-returns-in_ok-v-in-Word
factor-returns-in_ok-v-in-Word t c =
    let env = labels_of c.args.labels.now.text.now in
    let f = word_found c.args.line.now c.args.at c.in-Word.is c.token_at.ensures in
    let ts = tokens (drop c.in-Word.to c.args.line.now) in
    let e = sym (ap (λ (r : Option Value). got_of r ts) c.in_ok-v-in-Word.was) ∙ c.word.ensures ts in (
      e ∙ (factor_word env c.args.depth (take (c.in-Word.to - c.in-Word.from) (drop c.in-Word.from c.args.line.now)) ts ∙ ap (λ (s : List Token). map_got (value_f env) (read_f c.args.depth s)) (sym f.0)),
      (omega arith, f.3),
    )

pub factor-returns-then-b-ne40 : goal.factor-returns-then-b-ne40
factor-returns-then-b-ne40 t c =
    let env = labels_of c.args.labels.now.text.now in
    let f = mark_found c.args.line.now c.args.at c.in-Mark.is c.token_at.ensures in
    let s = ap (λ (s : List Token). map_got (value_f env) (read_f c.args.depth s)) (sym f.0) in
    elim c.then-b-ne40.branch [
      | factor-then-b-ne40-via-then-b-ne40 w ↦ (factor_other env c.args.depth _ _ w.if-b-ne40.true ∙ s, tt)
      | factor-then-b-ne40-via-else-b-ne40+then-depth-eq0 w ↦ (factor_deep env c.args.depth _ _ w.if-b-ne40.false w.if-depth-eq0.true ∙ s, tt)
    ]

pub factor-returns-in_err-m-in-Mark : goal.factor-returns-in_err-m-in-Mark
factor-returns-in_err-m-in-Mark t c =
    let env = labels_of c.args.labels.now.text.now in
    let f = mark_found c.args.line.now c.args.at c.in-Mark.is c.token_at.ensures in
    let g = factor_bracket env c.args.depth _ _ c.if-b-ne40.false c.if-depth-eq0.false ∙ ap (λ (s : List Token). map_got (value_f env) (read_f c.args.depth s)) (sym f.0) in
    let z : c.from_residual-in_err-m-in-Mark.result ≡ None = search rules in
    (rw z (sym (ap closed_by (was_bad c.args.line.now c.in_err-m-in-Mark.was c.expression.ensures.0)) ∙ g), rw z tt)

pub factor-returns-in_ok-m-in-Mark : goal.factor-returns-in_ok-m-in-Mark
factor-returns-in_ok-m-in-Mark t c =
    let env = labels_of c.args.labels.now.text.now in
    let f = mark_found c.args.line.now c.args.at c.in-Mark.is c.token_at.ensures in
    let j = inside_at c.args.line.now c.in-Mark.n c.in_ok-m-in-Mark.was c.expression.ensures.1 in
    let g = factor_bracket env c.args.depth _ _ c.if-b-ne40.false c.if-depth-eq0.false ∙ ap (λ (s : List Token). map_got (value_f env) (read_f c.args.depth s)) (sym f.0) in (
      c.closed.ensures.0 ∙ (sym (ap closed_by (was_at c.args.line.now c.in_ok-m-in-Mark.was c.expression.ensures.0)) ∙ g),
      inside_more c.args.line.now c.args.at c.in_ok-m-in-Mark.m c.closed.result (omega arith) c.closed.ensures.1,
    )

pub term-loop-q-init : goal.term-loop-q-init
term-loop-q-init t c =
    let i = inside_at c.args.line.now c.args.at c.in_ok-p.was c.factor.ensures.1 in
    (i.0, i.1, term_got (labels_of c.args.labels.now.text.now) c.args.depth (tokens (drop c.args.at c.args.line.now)) (was_at c.args.line.now c.in_ok-p.was c.factor.ensures.0))

pub term-returns : goal.term-returns
term-returns t c =
    let e = none_stands star_at (λ (b : ℕ). star) c.args.line.now c.loop-q.p c.in_default.not-Some c.star_at.ensures in
    (sym (c.loop-q.invariant.2 ∙ factors_end (labels_of c.args.labels.now.text.now) c.args.depth c.loop-q.v _ e), (c.loop-q.invariant.0, c.loop-q.invariant.1))

pub term-returns-in_err-n : goal.term-returns-in_err-n
term-returns-in_err-n t c =
    let env = labels_of c.args.labels.now.text.now in
    let f = one_stands star_at (λ (b : ℕ). star) c.args.line.now c.loop-q.p c.in-Some.is c.star_at.ensures in
    let e = was_bad c.args.line.now c.in_err-n.was c.factor-in-Some.ensures.0 in
    let z : c.from_residual-in_err-n.result ≡ None = search rules in
    (rw z (sym (c.loop-q.invariant.2 ∙ (ap (factors_run env c.args.depth c.loop-q.v) f.0 ∙ factors_bad env c.args.depth c.loop-q.v (Mark c.in-Some.field-0-0) (tokens (drop c.in-Some.q c.args.line.now)) f.1 e))), rw z tt)

pub term-loop-q-preserved : goal.term-loop-q-preserved
term-loop-q-preserved t c =
    let env = labels_of c.args.labels.now.text.now in
    let f = one_stands star_at (λ (b : ℕ). star) c.args.line.now c.loop-q.p c.in-Some.is c.star_at.ensures in
    let i = inside_at c.args.line.now c.in-Some.q c.in_ok-n.was c.factor-in-Some.ensures.1 in
    let e = was_at c.args.line.now c.in_ok-n.was c.factor-in-Some.ensures.0 in
    let s = factors_step env c.args.depth c.loop-q.v (Mark c.in-Some.field-0-0) (tokens (drop c.in-Some.q c.args.line.now)) f.1 e in
    let j = ap (λ (x : Value). factors_run env c.args.depth x (tokens (drop c.in_ok-n.n c.args.line.now))) (sym c.times-v.ensures) in
    (omega arith, i.1, c.loop-q.invariant.2 ∙ (ap (factors_run env c.args.depth c.loop-q.v) f.0 ∙ (s ∙ j)))
