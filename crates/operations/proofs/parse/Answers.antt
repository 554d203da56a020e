use native.Mathlib.Omega.{arith}
use lib.ListN.{drop}
use Rattle.tokens.proofs.Found.{word_found, mark_found, end_found}
use Rattle.tokens.specs.Tokens.{tokens}
use Rattle.operations.proofs.Reading.{cluster_not, cluster_at, onward_at, parse_none, parse_end, parse_word, parse_moved, parse_mark, gathered_kept}
use Rattle.operations.proofs.parse.Goals as goal

pub returns-in_err-n : goal.returns-in_err-n
returns-in_err-n c = rw c.from_residual.ensures (parse_none (tokens (drop c.args.at c.args.line.now)) (cluster_not c.args.line.now c.in_err-n.was c.cluster_at.ensures.0), tt)

pub returns-then-b-ne61 : goal.returns-then-b-ne61
returns-then-b-ne61 c = (
  parse_mark (tokens (drop c.args.at c.args.line.now)) (cluster_at c.args.line.now c.in_ok-n.was c.cluster_at.ensures.0) (mark_found c.args.line.now c.in_ok-n.n c.in-Mark.is c.token_at.ensures).0 c.if-b-ne61.true,
  tt,
)

pub returns-in-End : goal.returns-in-End
returns-in-End c = (
  parse_end (tokens (drop c.args.at c.args.line.now)) (cluster_at c.args.line.now c.in_ok-n.was c.cluster_at.ensures.0) (end_found c.args.line.now c.in_ok-n.n c.in-End.is c.token_at.ensures),
  tt,
)

pub returns-in-Word : goal.returns-in-Word
returns-in-Word c =
    let o = onward_at c.args.line.now c.args.at c.in_ok-n.was c.cluster_at.ensures.1 in
    let f = word_found c.args.line.now c.in_ok-n.n c.in-Word.is c.token_at.ensures in (
      parse_word (tokens (drop c.args.at c.args.line.now)) (cluster_at c.args.line.now c.in_ok-n.was c.cluster_at.ensures.0) f.0 c.by_name.ensures.0,
      gathered_kept c.args.line.now c.args.at _ _ c.by_name.result (omega arith) o.2 c.by_name.ensures.1,
    )

pub returns-else-b-ne61 : goal.returns-else-b-ne61
returns-else-b-ne61 c =
    let o = onward_at c.args.line.now c.args.at c.in_ok-n.was c.cluster_at.ensures.1 in
    let f = mark_found c.args.line.now c.in_ok-n.n c.in-Mark.is c.token_at.ensures in (
      parse_moved (tokens (drop c.args.at c.args.line.now)) (cluster_at c.args.line.now c.in_ok-n.was c.cluster_at.ensures.0) f.0 c.if-b-ne61.false c.moved.ensures.0,
      gathered_kept c.args.line.now c.args.at _ _ c.moved.result (omega arith) o.2 c.moved.ensures.1,
    )
