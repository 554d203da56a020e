-- The theorems that the functions of this crate promise.
use Rattle.samples.specs.Promise.{Load, Check, Run}
use Rattle.samples.proofs.Wrongs.{wrong_load, wrong_check}
use Rattle.samples.proofs.Examples.{examples}
use Rattle.samples.proofs.ExamplesRun.{wrong_run}
use Rattle.samples.proofs.ExamplesValues.{checked}

pub load : Load
load = record { wrong = wrong_load }

pub check : Check
check = record { wrong = wrong_check; examples = examples }

pub run : Run
run = record { wrong = wrong_run; checked = checked }
