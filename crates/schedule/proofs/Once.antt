-- What is said of a schedule is said by one verdict only, and a call of check may leave one outcome only.
use mathlib.Core.Path.{◌≡◌, refl, sym, ap, ◌∙◌}
use mathlib.Core.List.{List}
use Prim.Native.Nat.{ℕ}
use native.Mathlib.Omega.{arith}
use Rattle.std.specs.Prelude.{Ok, Err}
use Rattle.word.specs.Bytes.{words}
use Rattle.isa.specs.declared.Delays.{Delays}
use Rattle.isa.specs.declared.Place.{Place}
use Rattle.tables.specs.Table.{table_of}
use Rattle.loader.specs.Load.{Loaded, loaded_of}
use Rattle.loader.specs.declared.Answer.{Answer}
use Rattle.loader.specs.Answer.{RoomOutcome, answered}
use Rattle.schedule.specs.Rule.{Verdict, Says}
use Rattle.schedule.specs.Answer.{verdict_answer, AnswersBy, Checks}
use Rattle.schedule.specs.declared.TooSoon.{TooSoon}

place : {p q : Place} → p.0 ≡ q.0 → p ≡ q
place e = λ i. record { 0 = e i }

module _ (d : Delays) (program : List ℕ) where
  pub one_verdict : (v w : Verdict) → Says d program v → Says d program w → v ≡ w
  one_verdict (Ok _) (Ok _) h k = refl
  one_verdict (Ok _) (Err e) h k = absurd (h e.producer.0 e.consumer.0 k.0)
  one_verdict (Err e) (Ok _) h k = absurd (k e.producer.0 e.consumer.0 h.0)
  one_verdict (Err e) (Err f) h k =
      let p : e.producer.0 ≡ f.producer.0 = omega (arith, h.1 _ _ k.0, k.1 _ _ h.0) in
      let q : e.consumer.0 ≡ f.consumer.0 = omega (arith, h.2 f.consumer.0 (rw p k.0), k.2 e.consumer.0 (rw p at h.0)) in
      ap (λ (x : TooSoon). Err x) (λ i. record { producer = place p i; consumer = place q i })

module _ (table program room : List ℕ) where
  by : (l : Loaded) (a b : Answer) → AnswersBy l table program a → AnswersBy l table program b → a ≡ b
  by (Err r) a b h k = h ∙ sym k
  by (Ok tt) a b (v, h, e) (w, k, f) =
      e ∙ ap verdict_answer (one_verdict (table_of table).delays (words program) v w h k) ∙ sym f

  pub one_outcome : (o s : RoomOutcome) → Checks table program room o → Checks table program room s → o ≡ s
  one_outcome o s (a, h, e) (b, k, f) = e ∙ ap (λ (x : Answer). answered x room) (by (loaded_of table program room) a b h k) ∙ sym f
