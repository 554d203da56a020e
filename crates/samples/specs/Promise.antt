-- What is shown of each entry's promise at named inputs: wrong programs that break it, and examples.
use Rattle.std.specs.Prelude.{[]}
use Rattle.samples.specs.Wrong.{Loads, ChecksCall, Wrong, table, program, under}
use Rattle.samples.specs.Schedules.{two, three, Examples}
use Rattle.samples.specs.WrongRun.{WrongRun}
use Rattle.samples.specs.Checked.{Checked}

pub record Load : Type 0 where
  -- document 01's example, and the same program under no table
  pub wrong : Wrong Loads (under table program) (under [] program)

pub record Check : Type 0 where
  -- a reader three on, and one two on
  pub wrong : Wrong ChecksCall (under table three) (under table two)
  -- what the rule says of three schedules
  pub examples : Examples

pub record Run : Type 0 where
  pub wrong : WrongRun
  -- the checked values of document 01
  pub checked : Checked
