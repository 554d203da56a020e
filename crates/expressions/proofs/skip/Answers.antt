use mathlib.Core.Path.{sym, ap, ◌∙◌}
use native.Mathlib.Omega.{arith}
use Rattle.tokens.proofs.Found.{end_found, word_found, mark_found}
use Rattle.expressions.proofs.Scan.{operates, start_end, start_word, start_no_factor, start_other, start_deep, start_bracket, next_operator, next_done, open_end, open_word, open_other, open_close}
use Rattle.expressions.proofs.Skips.{nowhere, ended, further}
use Rattle.tokens.specs.Tokens.{tokens}
use Rattle.std.proofs.Common.{drop}
use Rattle.expressions.proofs.skip.Goals as goal
use Rattle.expressions.proofs.skip.Goals.{in_default-via-in-End+else-first, in_default-via-in-Word+else-first-2}

pub returns-in-End : goal.returns-in-End
returns-in-End c = nowhere c.args.line.now c.args.at c.loop-from.invariant (start_end c.loop-from.«open» c.if-first.true (end_found c.args.line.now c.loop-from.p c.in-End.is c.token_at.ensures))

pub returns-then-not-is_factor : goal.returns-then-not-is_factor
returns-then-not-is_factor c = let w = word_found c.args.line.now c.loop-from.p c.in-Word.is c.token_at.ensures in nowhere c.args.line.now c.args.at c.loop-from.invariant (start_no_factor c.loop-from.«open» c.if-first-2.true w.0 (sym c.is_factor.ensures ∙ c.if-not-is_factor.true))

pub loop-from-preserved-then-first-2 : goal.loop-from-preserved-then-first-2
loop-from-preserved-then-first-2 c = let w = word_found c.args.line.now c.loop-from.p c.in-Word.is c.token_at.ensures in further c.args.line.now c.args.at c.loop-from.invariant (start_word c.loop-from.«open» c.if-first-2.true w.0 (sym c.is_factor.ensures ∙ c.if-not-is_factor.false)) (omega arith) (omega arith) c.loop-from.invariant.few

pub returns-then-b-ne40 : goal.returns-then-b-ne40
returns-then-b-ne40 c = let m = mark_found c.args.line.now c.loop-from.p c.in-Mark.is c.token_at.ensures in nowhere c.args.line.now c.args.at c.loop-from.invariant (start_other c.loop-from.«open» c.if-first-3.true m.0 c.if-b-ne40.true)

pub returns-then-open-eq16 : goal.returns-then-open-eq16
returns-then-open-eq16 c = let m = mark_found c.args.line.now c.loop-from.p c.in-Mark.is c.token_at.ensures in nowhere c.args.line.now c.args.at c.loop-from.invariant (start_deep c.loop-from.«open» c.if-first-3.true m.0 c.if-b-ne40.false c.if-open-eq16.true)

pub loop-from-preserved-then-first-3 : goal.loop-from-preserved-then-first-3
loop-from-preserved-then-first-3 c = let m = mark_found c.args.line.now c.loop-from.p c.in-Mark.is c.token_at.ensures in further c.args.line.now c.args.at c.loop-from.invariant (start_bracket c.loop-from.«open» c.if-first-3.true m.0 c.if-b-ne40.false c.if-open-eq16.false) m.1 m.2 (omega arith)

pub loop-from-preserved-then-is_operator : goal.loop-from-preserved-then-is_operator
loop-from-preserved-then-is_operator c = let m = mark_found c.args.line.now c.loop-from.p c.in-Mark.is c.token_at.ensures in further c.args.line.now c.args.at c.loop-from.invariant (next_operator c.loop-from.«open» c.if-first-3.false m.0 (sym c.is_operator.ensures ∙ c.if-is_operator.true)) m.1 m.2 c.loop-from.invariant.few

pub returns-then-open-eq0 : goal.returns-then-open-eq0
returns-then-open-eq0 c = let m = mark_found c.args.line.now c.loop-from.p c.in-Mark.is c.token_at.ensures in ended c.args.line.now c.args.at c.loop-from.invariant c.if-first-3.false (next_done c.loop-from.«open» (tokens (drop c.loop-from.p c.args.line.now)) c.if-first-3.false (ap operates m.0 ∙ (sym c.is_operator.ensures ∙ c.if-is_operator.false)) c.if-open-eq0.true)

pub returns-then-b-ne41 : goal.returns-then-b-ne41
returns-then-b-ne41 c = let m = mark_found c.args.line.now c.loop-from.p c.in-Mark.is c.token_at.ensures in nowhere c.args.line.now c.args.at c.loop-from.invariant (open_other c.loop-from.«open» c.if-first-3.false c.if-open-eq0.false m.0 (sym c.is_operator.ensures ∙ c.if-is_operator.false) c.if-b-ne41.true)

pub loop-from-preserved : goal.loop-from-preserved
loop-from-preserved c = let m = mark_found c.args.line.now c.loop-from.p c.in-Mark.is c.token_at.ensures in further c.args.line.now c.args.at c.loop-from.invariant (open_close c.loop-from.«open» c.if-first-3.false c.if-open-eq0.false m.0 (sym c.is_operator.ensures ∙ c.if-is_operator.false) c.if-b-ne41.false) m.1 m.2 (omega arith)

pub returns-in_default : goal.returns-in_default
returns-in_default c =
    let line = c.args.line.now in
    let p = c.loop-from.p in
    elim c.in_default.branch [
      | in_default-via-in-End+else-first w ↦ ended line c.args.at c.loop-from.invariant w.if-first.false (next_done c.loop-from.«open» (tokens (drop p line)) w.if-first.false (ap operates (end_found line p w.in-End.is c.token_at.ensures)) c.if-open-eq0-2.true)
      | in_default-via-in-Word+else-first-2 w ↦ ended line c.args.at c.loop-from.invariant w.if-first-2.false (next_done c.loop-from.«open» (tokens (drop p line)) w.if-first-2.false (ap operates (word_found line p w.in-Word.is c.token_at.ensures).0) c.if-open-eq0-2.true)
    ]

pub returns-in_default-2 : goal.returns-in_default-2
returns-in_default-2 c =
    let line = c.args.line.now in
    let p = c.loop-from.p in
    elim c.in_default.branch [
      | in_default-via-in-End+else-first w ↦ nowhere line c.args.at c.loop-from.invariant (open_end c.loop-from.«open» w.if-first.false c.if-open-eq0-2.false (end_found line p w.in-End.is c.token_at.ensures))
      | in_default-via-in-Word+else-first-2 w ↦ nowhere line c.args.at c.loop-from.invariant (open_word c.loop-from.«open» w.if-first-2.false c.if-open-eq0-2.false (word_found line p w.in-Word.is c.token_at.ensures).0)
    ]
