-- check: "refusals 1 to 8" as load gives them, then 9, which "puts p in the count's field and q in the place's".
use Rattle.std.specs.Prelude.{◌≡◌, List, ℕ, Ok, Err}
use Rattle.word.specs.Bytes.{words}
use Rattle.tables.specs.Table.{table_of}
use Rattle.loader.specs.Load.{Loaded, loaded_of}
use Rattle.loader.specs.declared.Answer.{Answer}
use Rattle.loader.specs.Answer.{answer, refusal_answer, RoomOutcome, answered}
use Rattle.schedule.specs.Rule.{Verdict, Says}

abbrev pub verdict_answer : Verdict → Answer
verdict_answer (Ok _) = answer 0 0 0
verdict_answer (Err e) = answer 9 e.producer.0 e.consumer.0

-- the answer: a refusal's, or that of the verdict that the paths give
abbrev pub AnswersBy : Loaded → List ℕ → List ℕ → Answer → Type 0
AnswersBy (Err r) table program a = a ≡ refusal_answer r
AnswersBy (Ok tt) table program a = (v : Verdict) × Says (table_of table).delays (words program) v × (a ≡ verdict_answer v)

abbrev pub Answers : List ℕ → List ℕ → List ℕ → Answer → Type 0
Answers table program room a = AnswersBy (loaded_of table program room) table program a

-- all that a call of check leaves
abbrev pub Checks : List ℕ → List ℕ → List ℕ → RoomOutcome → Type 0
Checks table program room o = (a : Answer) × Answers table program room a × (o ≡ answered a room)
