-- Demand 2 of the refusals: each entry, by what loading says.
use mathlib.Core.Path.{◌≡◌, refl, ◌∙◌}
use mathlib.Core.Logic.{◌⊎◌, ⊎_elim}
use mathlib.Core.List.{List}
use Prim.Native.Nat.{ℕ}
use native.Mathlib.Omega.{arith}
use Rattle.std.specs.Prelude.{Ok, Err}
use Rattle.word.specs.Bytes.{words}
use Rattle.word.proofs.Choice.{never_both}
use Rattle.tables.specs.Table.{table_of}
use Rattle.loader.specs.Answer.{answer, load_answer}
use Rattle.loader.specs.declared.Answer.{Answer}
use Rattle.loader.specs.Load.{Loaded, loaded_of}
use Rattle.schedule.specs.Rule.{Verdict, TooSoonAt, Says as Scheduled}
use Rattle.schedule.specs.Answer.{verdict_answer, AnswersBy}
use Rattle.call.specs.Run.{Call, Outcome, ran_of}
use Rattle.demands.specs.Calls.{Pauses, Stops, Refuses, Faults}
use Rattle.demands.specs.Exact.{nothing, LoadBreaks, CheckBreaks, RunBreaks, too_soon, Exact}
use Rattle.demands.specs.Demand2.{Demand2}
use Rattle.demands.proofs.Exact.{exact_none, exact_first, numbers, ten_left, none, first, LoadSays, load_says}
use Rattle.demands.proofs.Endings.{ending_number, fault_range}
use Rattle.demands.proofs.Taken.{Answered, not_run, did_run, answered, taken_unbroken}

module _ (table program room : List ℕ) where
  load : (l : Loaded) → LoadSays table program room nothing l
      → let a = load_answer l in Exact (LoadBreaks table program room) (a.number ≡ 0) a
  load (Ok tt) (none free) =
      exact_none (answer 0 0 0) refl (λ h. omega (arith, h.0)) (λ k n i b. never_both (ten_left free (λ p q h. h) k n i b).1 refl)
  load (Err r) (first e f) = rw e (exact_first (λ z. omega (arith, z, numbers f.breaks)) f)

  -- ---- check

  abbrev Soon : ℕ → ℕ → Type 0
  Soon = TooSoonAt (table_of table).delays (words program)

  nine : {n i : ℕ} → CheckBreaks table program room 9 n i → Soon n i
  nine (too_soon p q h) = h

  by_verdict : (v : Verdict) → LoadSays table program room Soon (Ok tt) → Scheduled (table_of table).delays (words program) v
      → let a = verdict_answer v in Exact (CheckBreaks table program room) (a.number ≡ 0) a
  by_verdict (Ok _) (none free) h =
      exact_none (answer 0 0 0) refl (λ h. omega (arith, h.0)) (λ k n i b. never_both (ten_left free h k n i b).1 refl)
  by_verdict (Err _) (none free) (soon, lowest, place) =
      exact_first (λ z. omega (arith, z))
      (record { breaks = too_soon _ _ soon; before = free; lowest = λ m j b. lowest m j (nine b); place = λ j b. place j (nine b) })

  check : (l : Loaded) → LoadSays table program room Soon l → (a : Answer) → AnswersBy l table program a
      → Exact (CheckBreaks table program room) (a.number ≡ 0) a
  check (Ok tt) s a (v, h, e) = rw e (by_verdict v s h)
  check (Err r) (first e f) a h = rw (h ∙ e) (exact_first (λ z. omega (arith, z, numbers f.breaks)) f)

-- ---- run

alone : (o : Outcome) → Pauses o ⊎ Stops o ⊎ Faults o → ¬ Refuses o
alone o p (low, high) = ⊎_elim (λ e. omega (arith, e)) (⊎_elim (λ e. omega (arith, e)) (λ e. omega (arith, (fault_range e).0))) p

run : (c : Call) {a : Answer} {o : Outcome} → Answered c a o → Exact (RunBreaks c) (Pauses o ⊎ Stops o ⊎ Faults o) a
run c {o = o} (not_run f) = exact_first (λ p. alone o p (numbers f.breaks)) f
run c {o = o} (did_run t) = let number = ending_number (ran_of c).ending in exact_none _ number (alone o number) (taken_unbroken c t)

pub demand_2 : Demand2
demand_2 = record {
  load = λ table program room. load table program room (loaded_of table program room) (load_says table program room nothing);
  check = λ table program room. check table program room (loaded_of table program room) (load_says table program room _);
  run = λ c. run c (answered c);
}
