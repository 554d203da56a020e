-- The nexts are put in one after the other.
use mathlib.Core.Path.{◌≡◌, ◌∙◌}
use Rattle.word.specs.Bytes.{words}
use Rattle.isa.specs.Touch.{listed}
use Rattle.isa.proofs.Instructions.{start_inside}
use Rattle.reach.specs.Nexts.{nexts_at}
use Rattle.reach.proofs.Growing.{joined_more}
use Rattle.reach.proofs.expand.Goals as goal
use Rattle.reach.proofs.expand.Goals.{After-nexts}

pub following-requires : goal.following-requires
following-requires c =
    start_inside (words c.args.program.now) c.args.at.0 c.requires.at_value

found : (c : After-nexts) →
    listed c.nexts.result ≡ nexts_at (words c.args.program.now) c.args.at.0
found c = c.nexts.ensures ∙ rw (c.following.ensures, c.cut.ensures)

pub returns-in-Two : goal.returns-in-Two
returns-in-Two c =
    rw (← found (goal.at.returns-in-Two c).After-nexts, c.in-Two.is) (joined_more _ _ _ c.insert-in-Two.ensures c.insert-in-Two-2.ensures)
