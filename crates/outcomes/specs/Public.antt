-- Written by tests/public. The promise of every public function admits one outcome only; docs/PUBLIC.md lists them, and the exceptions.
use Rattle.std.specs.Prelude.{⊤}
use Rattle.outcomes.specs.OneOutcome.{OneOutcome}
use Rattle.outcomes.specs.Word.{Word}
use Rattle.outcomes.specs.Ops.{Ops}
use Rattle.outcomes.specs.Isa.{Isa}
use Rattle.outcomes.specs.Tables.{Tables}
use Rattle.outcomes.specs.Zero.{Zero}
use Rattle.outcomes.specs.Refusals.{Refusals}
use Rattle.outcomes.specs.Loader.{Loader}
use Rattle.outcomes.specs.Reach.{Reach}
use Rattle.outcomes.specs.Schedule.{Schedule}
use Rattle.outcomes.specs.Lines.{Lines}
use Rattle.outcomes.specs.Values.{Values}
use Rattle.outcomes.specs.Expressions.{Expressions}
use Rattle.outcomes.specs.Source.{Source}
use Rattle.outcomes.specs.Evaluation.{Evaluation}
use Rattle.outcomes.specs.Assembler.{Assembler}
use Rattle.outcomes.specs.Memory.{Memory}
use Rattle.outcomes.specs.Machine.{Machine}
use Rattle.outcomes.specs.Ticks.{Ticks}
use Rattle.outcomes.specs.Gather.{Gather}
use Rattle.outcomes.specs.Run.{Run}
use Rattle.outcomes.specs.Call.{Call}
use Rattle.outcomes.specs.Sandbox.{Sandbox}
use Rattle.outcomes.specs.Text.{Text}
use Rattle.outcomes.specs.Assembly.{Assembly}

pub record Public : Type 0 where
  pub word : Word
  pub ops : Ops
  pub isa : Isa
  pub tables : Tables
  pub zero : Zero
  pub refusals : Refusals
  pub loader : Loader
  pub reach : Reach
  pub schedule : Schedule
  pub lines : Lines
  pub values : Values
  pub expressions : Expressions
  pub source : Source
  pub evaluation : Evaluation
  pub assembler : Assembler
  pub memory : Memory
  pub machine : Machine
  pub ticks : Ticks
  pub gather : Gather
  pub run : Run
  pub call : Call
  pub sandbox : Sandbox
  pub text : Text
  pub assembly : Assembly
  -- a function that returns nothing and changes nothing has one outcome, even if it promises nothing
  pub nothing : OneOutcome (λ (o : record {}). ⊤)
