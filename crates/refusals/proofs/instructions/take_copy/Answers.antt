-- By whether the two clusters are one.
use Rattle.refusals.proofs.Takes.{took_same, took_two}
use Rattle.refusals.proofs.instructions.take_copy.Goals as goal

pub returns-then-from-c : goal.returns-then-from-c
returns-then-from-c c =
    took_same c.args.clusters c.args.c c.args.from c.args.left.now c.take-own.new.left c.take-own.result c.if-from-c.true c.take-own.ensures

pub returns : goal.returns
returns c =
    took_two c.args.clusters c.args.c c.args.from c.args.left.now c.take-own.new.left c.take.new.left c.take-own.result c.take.result c.if-from-c.false c.take-own.ensures c.take.ensures
