use Rattle.source.proofs.Heard.{hear_line}
use Rattle.source.proofs.reading.read.Goals as goal
use Rattle.source.proofs.reading.read.Goals.{in-Some, in-None}

pub returns-clause-heard : goal.returns-clause-heard
returns-clause-heard c =
    elim c.match-label_of.branch [
      | in-Some w ↦
          let l = rw w.in-Some.is at c.label_of.ensures in
          hear_line c.args.line.now c.match-label_of.label.0 c.match-label_of.label.1 c.says_at-says.result (rw w.label-is (l.name, l.rest)) c.says_at-says.ensures.heard
      | in-None w ↦
          let l = rw w.in-None.is at c.label_of.ensures in
          hear_line c.args.line.now c.match-label_of.label.0 c.match-label_of.label.1 c.says_at-says.result (rw w.label-is (l, rw (← l))) c.says_at-says.ensures.heard
    ]
