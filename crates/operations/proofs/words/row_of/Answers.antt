use native.Mathlib.Omega.{arith}
use Rattle.operations.proofs.Naming.{row_here, row_next, row_none, row_test, lent}
use Rattle.operations.proofs.words.row_of.Goals as goal

pub slice_bounds-is_named-end : goal.slice_bounds-is_named-end
slice_bounds-is_named-end c =
    let l = lent c.args.table.now c.requires in
    omega arith

pub returns-then-is_named : goal.returns-then-is_named
returns-then-is_named c =
    row_here c.args.w.now c.loop-row.row c.loop-row-test.true (row_test c.args.table.now c.args.w.now c.loop-row.row c.requires c.is_named.ensures c.if-is_named.true) c.loop-row.invariant

pub loop-row-preserved : goal.loop-row-preserved
loop-row-preserved c =
    row_next c.args.w.now c.loop-row.row c.loop-row-test.true (row_test c.args.table.now c.args.w.now c.loop-row.row c.requires c.is_named.ensures c.if-is_named.false) c.loop-row.invariant

pub returns : goal.returns
returns c = row_none c.args.w.now c.loop-row.row c.loop-row-test.false c.loop-row.invariant
