-- Written by tests/public.
use mathlib.Core.Path.{refl}
use Rattle.outcomes.specs.Public.{Public}
use Rattle.outcomes.proofs.Word.{word}
use Rattle.outcomes.proofs.Ops.{ops}
use Rattle.outcomes.proofs.Isa.{isa}
use Rattle.outcomes.proofs.Tables.{tables}
use Rattle.outcomes.proofs.Zero.{zero}
use Rattle.outcomes.proofs.Refusals.{refusals}
use Rattle.outcomes.proofs.Loader.{loader}
use Rattle.outcomes.proofs.Reach.{reach}
use Rattle.outcomes.proofs.Schedule.{schedule}
use Rattle.outcomes.proofs.Lines.{lines}
use Rattle.outcomes.proofs.Values.{values}
use Rattle.outcomes.proofs.Expressions.{expressions}
use Rattle.outcomes.proofs.Source.{source}
use Rattle.outcomes.proofs.Evaluation.{evaluation}
use Rattle.outcomes.proofs.Assembler.{assembler}
use Rattle.outcomes.proofs.Memory.{memory}
use Rattle.outcomes.proofs.Machine.{machine}
use Rattle.outcomes.proofs.Ticks.{ticks}
use Rattle.outcomes.proofs.Gather.{gather}
use Rattle.outcomes.proofs.Run.{run}
use Rattle.outcomes.proofs.Call.{call}
use Rattle.outcomes.proofs.Sandbox.{sandbox}
use Rattle.outcomes.proofs.Text.{text}
use Rattle.outcomes.proofs.Assembly.{assembly}

pub public : Public
public = record {
  word = word;
  ops = ops;
  isa = isa;
  tables = tables;
  zero = zero;
  refusals = refusals;
  loader = loader;
  reach = reach;
  schedule = schedule;
  lines = lines;
  values = values;
  expressions = expressions;
  source = source;
  evaluation = evaluation;
  assembler = assembler;
  memory = memory;
  machine = machine;
  ticks = ticks;
  gather = gather;
  run = run;
  call = call;
  sandbox = sandbox;
  text = text;
  assembly = assembly;
  nothing = λ _ _ _ _. refl;
}
