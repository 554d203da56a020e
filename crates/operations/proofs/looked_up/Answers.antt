use mathlib.Core.Path.{sym, ◌∙◌}
use native.Mathlib.Omega.{arith}
use lib.ListN.{drop}
use Rattle.tokens.specs.Tokens.{tokens}
use Rattle.operations.proofs.Naming.{lent}
use Rattle.operations.proofs.Reading.{row_below, letters_part, row_rooms, row_said}
use Rattle.operations.proofs.looked_up.Goals as goal

pub overflow_mul-first : goal.overflow_mul-first
overflow_mul-first c = let b = row_below _ c.row_of.ensures c.in_ok-row.was in omega arith

pub overflow_add-first : goal.overflow_add-first
overflow_add-first c = let b = row_below _ c.row_of.ensures c.in_ok-row.was in omega arith

pub overflow_add-last : goal.overflow_add-last
overflow_add-last c = let b = row_below _ c.row_of.ensures c.in_ok-row.was in omega arith

pub slice_bounds-operands-end : goal.slice_bounds-operands-end
slice_bounds-operands-end c =
    let b = row_below _ c.row_of.ensures c.in_ok-row.was in
    let l = lent c.args.table.now c.requires.0 in
    omega arith

pub base_of-requires : goal.base_of-requires
base_of-requires c = row_below _ c.row_of.ensures c.in_ok-row.was

pub operands-requires : goal.operands-requires
operands-requires c = (
  c.requires.2,
  row_rooms c.in_ok-row.row c.base_of.result _ c.base_of.ensures (letters_part c.args.table.now c.in_ok-row.row c.requires.0) (row_below _ c.row_of.ensures c.in_ok-row.was),
)

pub returns : goal.returns
returns c = (
  row_said c.in_ok-row.row c.base_of.result _ c.base_of.ensures (letters_part c.args.table.now c.in_ok-row.row c.requires.0) c.args.front.cluster c.args.front.from _
      (tokens (drop c.args.at c.args.line.now)) c.row_of.ensures c.in_ok-row.was (row_below _ c.row_of.ensures c.in_ok-row.was) (sym c.is_fronted.ensures ∙ c.if-not-is_fronted.false) c.operands.ensures.0,
  c.operands.ensures.1,
)
