-- Written by tests/public. The promise of each public function of call admits one outcome only.
use Rattle.std.specs.Prelude.{Err, Ok, ◌≡◌}
use Rattle.loader.specs.declared.Answer.{Answer}
use Rattle.loader.specs.declared.Refusal.{Refusal}
use Rattle.call.specs.Reply.{reply_answer}
use Rattle.call.specs.declared.Ended.{Ended}
use Rattle.call.specs.declared.Unrun.{Unrun}
use Rattle.call.specs.declared.Unrun.TheVariants.{Refused}
use Rattle.outcomes.specs.OneOutcome.{OneOutcome}

pub record Call : Type 0 where
  -- crates/call/src/lib.rt
  pub unrun_from_refusal_one : (r : Refusal) → OneOutcome (λ (s : Unrun). s ≡ Refused r)
  -- crates/call/src/replies.rt
  pub answer_from_ended_one : (e : Ended) → OneOutcome (λ (r : Answer). r ≡ reply_answer (Ok e))
  pub answer_from_unrun_one : (u : Unrun) → OneOutcome (λ (r : Answer). r ≡ reply_answer (Err u))
