use Rattle.word.specs.Bytes.{words}
use Rattle.ticks.specs.Ticks.{views}
use Rattle.turn.specs.Turn.{situation_at, beside}
use Rattle.run.proofs.Endings.{Going}
use Rattle.run.proofs.run_all.Given as goal

abbrev pub invariant-loop-i : goal.invariant-loop-i
invariant-loop-i l =
    Going l.given.delays (words l.given.program.now) l.given.landing.now l.n.0 l.i
    (situation_at l.fn.start.place.0 (views 0 l.initial.registers.all) (beside l.initial.memory l.fn.start.link) l.given.landing.now 0) l.at l.registers.all l.memory
