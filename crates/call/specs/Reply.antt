-- The paper's number, count and place of each reply of run.
use Rattle.std.specs.Prelude.{Result, Ok, Err}
use Rattle.vliw.specs.Run.{number_of}
use Rattle.loader.specs.declared.Answer.{Answer}
use Rattle.loader.specs.Answer.{answer, refusal_answer}
use Rattle.call.specs.declared.Ended.{Ended}
use Rattle.call.specs.declared.Unrun.{Unrun}
use Rattle.call.specs.declared.Unrun.TheVariants.{Refused, BadState}

abbrev pub Reply : Type 0
Reply = Result Ended Unrun

-- "The answer has number, executed count and place, which is the current one if paused or stopped."
abbrev pub reply_answer : Reply → Answer
reply_answer (Err (Refused r)) = refusal_answer r
reply_answer (Err BadState) = answer 10 0 0
reply_answer (Ok e) = answer (number_of e.ending) e.count.0 e.place.0
