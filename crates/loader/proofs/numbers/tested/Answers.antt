-- Each test that found no place leaves the answer to the later ones.
use Rattle.word.specs.Bytes.{words}
use Rattle.loader.specs.Load.{tested_by}
use Rattle.loader.proofs.Chain.{few_opened}
use Rattle.loader.proofs.numbers.tested.Goals as goal

pub two_writes-requires : goal.two_writes-requires
two_writes-requires c =
    few_opened c.args.table.clusters (words c.args.program.now) c.bad_cluster.ensures c.in_default-bad_cluster.is c.requires.bounds.clusters.1

pub returns-in-Some : goal.returns-in-Some
unfolding tested_by
returns-in-Some c = rw (← c.no_end.ensures, c.in-Some.is)

pub returns-in-Some-bad_bits : goal.returns-in-Some-bad_bits
unfolding tested_by
returns-in-Some-bad_bits c =
    rw (← c.no_end.ensures, c.in_default.is, ← c.bad_bits.ensures, c.in-Some-bad_bits.is)

pub returns-in-Some-bad_cluster : goal.returns-in-Some-bad_cluster
unfolding tested_by
returns-in-Some-bad_cluster c =
    rw (← c.no_end.ensures, c.in_default.is, ← c.bad_bits.ensures, c.in_default-bad_bits.is, ← c.bad_cluster.ensures, c.in-Some-bad_cluster.is)

pub returns-in-Some-too_wide : goal.returns-in-Some-too_wide
unfolding tested_by
returns-in-Some-too_wide c =
    rw (← c.no_end.ensures, c.in_default.is, ← c.bad_bits.ensures, c.in_default-bad_bits.is, ← c.bad_cluster.ensures, c.in_default-bad_cluster.is, ← c.too_wide.ensures, c.in-Some-too_wide.is)

pub returns-in-Some-two_writes : goal.returns-in-Some-two_writes
unfolding tested_by
returns-in-Some-two_writes c =
    rw (← c.no_end.ensures, c.in_default.is, ← c.bad_bits.ensures, c.in_default-bad_bits.is, ← c.bad_cluster.ensures, c.in_default-bad_cluster.is, ← c.too_wide.ensures, c.in_default-too_wide.is, ← c.two_writes.ensures, c.in-Some-two_writes.is)

pub returns-in-Some-bad_control : goal.returns-in-Some-bad_control
unfolding tested_by
returns-in-Some-bad_control c =
    rw (← c.no_end.ensures, c.in_default.is, ← c.bad_bits.ensures, c.in_default-bad_bits.is, ← c.bad_cluster.ensures, c.in_default-bad_cluster.is, ← c.too_wide.ensures, c.in_default-too_wide.is, ← c.two_writes.ensures, c.in_default-two_writes.is, ← c.bad_control.ensures, c.in-Some-bad_control.is)

pub returns : goal.returns
unfolding tested_by
returns c =
    rw (← c.no_end.ensures, c.in_default.is, ← c.bad_bits.ensures, c.in_default-bad_bits.is, ← c.bad_cluster.ensures, c.in_default-bad_cluster.is, ← c.too_wide.ensures, c.in_default-too_wide.is, ← c.two_writes.ensures, c.in_default-two_writes.is, ← c.bad_control.ensures, c.in_default-bad_control.is)
