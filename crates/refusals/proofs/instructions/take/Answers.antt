-- By whether the table has the cluster, and whether there is something to take.
use Rattle.refusals.proofs.Takes.{took_outside, took_nothing}
use Rattle.refusals.proofs.instructions.take.Goals as goal

pub returns-then-clusters-c : goal.returns-then-clusters-c
returns-then-clusters-c c = took_outside c.args.clusters c.args.c c.args.left.now c.if-clusters-c.true

pub returns-then-left-c-eq0 : goal.returns-then-left-c-eq0
returns-then-left-c-eq0 c =
    took_nothing c.args.clusters c.args.c c.args.left.now c.if-clusters-c.false c.if-left-c-eq0.true
