-- A call of run is refused, with the state and the memory as given, or it runs.
use mathlib.Core.Path.{◌≡◌, refl, sym, ◌∙◌}
use mathlib.Core.Logic.{⊎_elim}
use mathlib.Core.Bool.{true, false}
use mathlib.Core.List.{List}
use Prim.Native.Nat.{ℕ, zero-le}
use native.Mathlib.Omega.{arith}
use Rattle.std.specs.Prelude.{Ok, Err}
use Rattle.word.specs.Bytes.{words}
use Rattle.word.proofs.Choice.{by_test, never_both}
use Rattle.vliw.specs.Run.{number_of, Ran}
use Rattle.vliw.specs.Machine.{Situation}
use Rattle.tables.specs.Table.{table_of}
use Rattle.tables.specs.Bounds.{Bounds}
use Rattle.tables.proofs.Bounds.{bounds}
use Rattle.refusals.specs.Broken.{bad_program_length, bad_memory_length, bad_state_length, bad_room_length}
use Rattle.loader.specs.Load.{Loaded, loaded_with}
use Rattle.loader.specs.Answer.{answer}
use Rattle.loader.specs.declared.Answer.{Answer}
use Rattle.loader.specs.Passed.{Passed}
use Rattle.loader.proofs.Refusals.{passed, Accepted, accepted}
use Rattle.machine.specs.Link.{Memory, Change}
use Rattle.machine.specs.Image.{image_of}
use Rattle.machine.specs.Valid.{bad_state}
use Rattle.call.specs.Reply.{reply_answer}
use Rattle.call.specs.Run.{Call, Outcome, Done, ran_of, done_by, sizes_of, done_of, run_outcome}
use Rattle.call.proofs.Fits.{Fits, fits, fit_sizes}
use Rattle.demands.specs.Calls.{run_answer, outcome}
use Rattle.demands.specs.Exact.{nothing, RunBreaks, not_valid, First}
use Rattle.demands.proofs.Exact.{ten_left, Says, none, first, says}

abbrev pub found : Call → Loaded
found c = loaded_with (sizes_of c.program c.memory c.state c.room) c.table c.program

pub record Taken (c : Call) : Type 0 where
  pub good : found c ≡ Ok tt
  pub valid : bad_state (words c.program) c.state ≡ false

-- what a run leaves
abbrev pub left_by : Ran (Situation Memory Change) → List ℕ → Outcome
left_by r room =
    let s = r.state in
    outcome (answer (number_of r.ending) r.count s.place) (image_of s.place s.registers s.memory.link) s.memory.bytes room

-- what is answered for it
abbrev pub ran_answer : Ran (Situation Memory Change) → Answer
ran_answer r = answer (number_of r.ending) r.count r.state.place

-- how a call is answered
pub data Answered (c : Call) : Answer → Outcome → Type 0 where
  not_run : {k i : ℕ} → First (RunBreaks c) k 0 i → Answered c (answer k 0 i) (outcome (answer k 0 i) c.state c.memory c.room)
  did_run : Taken c → Answered c (ran_answer (ran_of c)) (left_by (ran_of c) c.room)

abbrev pub given : Done → List ℕ → Outcome
given d room = outcome (reply_answer d.reply) d.state d.memory room

-- a call whose program loads, by its state
module _ (c : Call) where
  abbrev Refusals : Loaded → Type 0
  Refusals =
      Says c.table c.program (bad_program_length c.program) (bad_memory_length c.memory) (bad_state_length c.state) (bad_room_length c.room)
      nothing (bad_state (words c.program) c.state)

  refusals : Refusals (found c)
  refusals = says c.table c.program _ _ _ _ nothing _

  -- none up to 8 breaks, and run gives no 9: so 10 is the first if the state breaks it
  invalid_first : Refusals (Ok tt) → bad_state (words c.program) c.state ≡ true → First (RunBreaks c) 10 0 0
  invalid_first (none free) e =
      record {
        breaks = not_valid e;
        before = λ l m j u b. omega (arith, u, (ten_left free (λ p q h. h) l m j b).0);
        lowest = λ m j b. zero-le;
        place = λ j b. zero-le;
      }

  nothing_breaks : Refusals (Ok tt) → bad_state (words c.program) c.state ≡ false → (k n i : ℕ) → ¬ RunBreaks c k n i
  nothing_breaks (none free) e k n i b = never_both (ten_left free (λ p q h. h) k n i b).1 e

  pub taken_unbroken : Taken c → (k n i : ℕ) → ¬ RunBreaks c k n i
  taken_unbroken t = nothing_breaks (rw t.good at refusals) t.valid

  answered_by : (l : Loaded) → found c ≡ l → Refusals l → let d = done_by l c in Answered c (reply_answer d.reply) (given d c.room)
  answered_by (Err r) e (first h f) = rw h (not_run f)
  answered_by (Ok tt) e f =
      ⊎_elim
      (λ b. rw b (not_run (invalid_first f b)))
      (λ b. rw b (did_run (record { good = e; valid = b })))
      (by_test (bad_state (words c.program) c.state))

pub answered : (c : Call) → Answered c (run_answer c) (run_outcome c)
unfolding done_of
answered c = answered_by c (found c) refl (refusals c)

pub taken_runs : (c : Call) → Taken c → run_outcome c ≡ left_by (ran_of c) c.room
unfolding done_of
taken_runs c t = rw (t.good, t.valid)

module _ {c : Call} (t : Taken c) where
  tests : Accepted (sizes_of c.program c.memory c.state c.room) c.table c.program
  tests = accepted (sizes_of c.program c.memory c.state c.room) c.table c.program t.good

  pub taken_fits : Fits c.program c.memory c.state c.room
  taken_fits = fits c.program c.memory c.state c.room tests.sized

  pub taken_passed : Passed (table_of c.table) (words c.program)
  taken_passed = passed (table_of c.table) (words c.program) tests.tested

  pub taken_bounds : Bounds (table_of c.table)
  taken_bounds = bounds c.table tests.limits

-- a call under the same table of the same program is taken by its own sizes and state
pub taken_by : (c d : Call) → Taken c → d.table ≡ c.table → d.program ≡ c.program → Fits d.program d.memory d.state d.room
    → bad_state (words d.program) d.state ≡ false → Taken d
taken_by c d t table program f valid = record {
  good = (λ k. loaded_with ((fit_sizes f ∙ sym (tests t).sized) k) (table k) (program k)) ∙ t.good;
  valid = valid;
}
