use mathlib.Core.Path.{◌∙◌}
use native.Mathlib.Omega.{arith}
use lib.ListN.{drop}
use Rattle.std.proofs.Common.{rules}
use Rattle.source.specs.Grammar.{lines_of}
use Rattle.source.specs.Seek.{walk_of, seek}
use Rattle.evaluation.specs.declared.labels.Known.{Known}
use Rattle.evaluation.proofs.Tables.{as_many, further}
use Rattle.evaluation.proofs.labels.Labels.find.Goals as goal

pub loop-i-init : goal.loop-i-init
loop-i-init c =
    let l = c.args.self.now in
    (as_many l.text.now l.hashes.now l.known.now l.tabled.sound, l.tabled.sound, l.tabled.seeks c.args.name.now)

pub loop-i-preserved : goal.loop-i-preserved
loop-i-preserved c =
    let l = c.args.self.now in
    let i = c.loop-i.invariant in
    let later = seek (walk_of l.walk) l.at (lines_of (drop l.at l.text.now)) c.args.name.now in
    let blank : Known = record { place = 0; value = 0 } in
    let on = further l.text.now l.hashes.now l.known.now c.args.name.now later c.loop-i.i blank (omega arith) i.0 i.1 (search rules) in
    (i.0, on.0, i.2 ∙ on.1)
