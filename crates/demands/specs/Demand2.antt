-- Demand 2 of the refusals: load, check and run refuse exactly as document 01 says. What else demand 2 asks is the entries' promises themselves.
use Rattle.std.specs.Prelude.{◌≡◌, ◌⊎◌, List, ℕ}
use Rattle.loader.specs.Load.{loaded_of}
use Rattle.loader.specs.Answer.{load_answer}
use Rattle.loader.specs.declared.Answer.{Answer}
use Rattle.schedule.specs.Answer.{Answers}
use Rattle.call.specs.Run.{Call, run_outcome}
use Rattle.demands.specs.Calls.{run_answer, Pauses, Stops, Faults}
use Rattle.demands.specs.Exact.{LoadBreaks, CheckBreaks, RunBreaks, Exact}

pub record Demand2 : Type 0 where
  pub load : (table program room : List ℕ) → let a = load_answer (loaded_of table program room) in Exact (LoadBreaks table program room) (a.number ≡ 0) a
  -- every answer that check's promise allows
  pub check : (table program room : List ℕ) (a : Answer) → Answers table program room a → Exact (CheckBreaks table program room) (a.number ≡ 0) a
  -- 1 to 8 and 10; it pauses, stops or faults exactly if none of them is broken
  pub run : (c : Call) → let o = run_outcome c in Exact (RunBreaks c) (Pauses o ⊎ Stops o ⊎ Faults o) (run_answer c)
