use borrow.Author.Tests.{ne_eqb}
use mathlib.Core.Path.{sym, ◌∙◌}
use Prim.Native.Nat.{◌+◌, ◌<◌}
use native.Mathlib.Omega.{arith}
use lib.ListN.{length}
use Rattle.tokens.proofs.Places.{skipped, end_at, comment_at, word_at, mark_at}
use Rattle.tokens.proofs.token_at.Goals as goal
use Rattle.tokens.proofs.token_at.Goals.{then-p-line-via-then-p-line, then-p-line-via-else-p-line+then-line-p-eq35}

pub returns-then-p-line : goal.returns-then-p-line
returns-then-p-line c =
    let s = skipped c.args.line.now c.args.at c.blanks.result c.requires c.blanks.ensures in
    elim c.then-p-line.branch [
      | then-p-line-via-then-p-line w ↦ (s.1 ∙ end_at c.args.line.now _ w.if-p-line.true, tt)
      | then-p-line-via-else-p-line+then-line-p-eq35 w ↦ (s.1 ∙ comment_at c.args.line.now _ (omega (arith, s.0, w.if-p-line.false)) w.if-line-p-eq35.true, tt)
    ]

pub returns-then-starts_word : goal.returns-then-starts_word
returns-then-starts_word c =
    let s = skipped c.args.line.now c.args.at c.blanks.result c.requires c.blanks.ensures in
    let h : c.args.at + c.blanks.result < length c.args.line.now = omega (arith, s.0) in
    let w = word_at c.args.line.now _ c.run_length.result h (sym c.starts_word.ensures ∙ c.if-starts_word.true) c.run_length.ensures in
    (s.1 ∙ w.0, (omega arith, omega arith, w.1))

pub returns : goal.returns
returns c =
    let s = skipped c.args.line.now c.args.at c.blanks.result c.requires c.blanks.ensures in
    let h : c.args.at + c.blanks.result < length c.args.line.now = omega (arith, s.0) in
    (s.1 ∙ mark_at c.args.line.now _ h (sym c.starts_word.ensures ∙ c.if-starts_word.false) s.2 (ne_eqb _ 35 c.if-line-p-eq35.false), (omega arith, omega arith))
