-- Demand 1 of run: each statement by how the call is answered.
use mathlib.Core.Path.{◌≡◌, refl, sym, ap, subst, ◌∙◌}
use mathlib.Core.Logic.{◌≢◌, ◌⊎◌, inl, inr, ⊎_elim}
use mathlib.Core.Bool.{false}
use mathlib.Core.List.{List}
use Prim.Native.Nat.{ℕ, zero, suc, ◌≤◌}
use native.Mathlib.Omega.{arith}
use lib.ListN.{length}
use borrow.Author.Tests.{ne_eqb}
use Rattle.word.specs.Bytes.{words}
use Rattle.vliw.specs.declared.Ending.TheVariants.{Paused}
use Rattle.vliw.specs.Run.{number_of, Step, Ran, run}
use Rattle.vliw.specs.Machine.{Instruction, Situation, in_order, step}
use Rattle.vliw.proofs.Stops.{again}
use Rattle.isa.specs.Program.{is_start, following, operations_at}
use Rattle.loader.specs.Answer.{answer, room_with}
use Rattle.loader.specs.declared.Answer.{Answer}
use Rattle.machine.specs.Link.{Memory, Change, change}
use Rattle.machine.specs.Image.{place_in}
use Rattle.machine.specs.Valid.{bad_state}
use Rattle.call.specs.Run.{Call, Outcome, state_of, ran_of, run_outcome}
use Rattle.machine.proofs.Images.{image_read}
use Rattle.machine.proofs.Acts.{halts}
use Rattle.demands.specs.Calls.{Lent, with_limit, second, outcome, Pauses, Stops, Refuses, Faults}
use Rattle.demands.specs.Exact.{RunBreaks, too_soon, First}
use Rattle.demands.specs.Demand3.{instructions}
use Rattle.demands.specs.Demand1.{left, Faulted, Rooms, Demand1}
use Rattle.demands.proofs.Exact.{numbers}
use Rattle.demands.proofs.Endings.{ending_number, fault_range, last, run_ended, unmoved, heedless, lending}
use Rattle.demands.proofs.Taken.{left_by, Taken, Answered, not_run, did_run, answered, taken_runs, taken_fits}
use Rattle.demands.proofs.Held.{left_held, next_taken, next_state}

-- ---- rooms

unwritten : (a : Answer) (room : List ℕ) → length room ≢ 12 → room_with a room ≡ room
unfolding room_with
unwritten a room h = rw (ne_eqb (length room) 12 h)

unwritten_run : {c : Call} {a : Answer} {o : Outcome} → Answered c a o → length c.room ≢ 12 → o.room ≡ c.room
unwritten_run {c} (not_run f) h = unwritten _ c.room h
unwritten_run {c} (did_run t) h = unwritten _ c.room h

rooms : Rooms
rooms = record {
  load = λ table program room h. unwritten _ room h;
  check = λ table program room o (a, s, e) h. ap (λ x. x.room) e ∙ unwritten a room h;
  run = λ c h. unwritten_run (answered c) h;
}

-- ---- the number

-- of a call that is refused
nine : (c : Call) {n i : ℕ} → ¬ RunBreaks c 9 n i
nine c (too_soon p q h) = h

-- of a call that runs
ran_known : (c : Call) → let k = number_of (ran_of c).ending in k ≤ 10 → k ≡ 0
ran_known c h = ⊎_elim (λ e. e) (λ m. ⊎_elim (λ e. absurd (omega arith)) (λ f. absurd (omega (arith, (fault_range f).0))) m) (ending_number (ran_of c).ending)

kind : {c : Call} {a : Answer} {o : Outcome} → Answered c a o → Pauses o ⊎ Stops o ⊎ Refuses o ⊎ Faults o
kind (not_run f) = inr (inr (inl (numbers f.breaks)))
kind {c} (did_run t) = ⊎_elim inl (λ m. inr (⊎_elim inl (λ f. inr (inr f)) m)) (ending_number (ran_of c).ending)

not_nine : {c : Call} {a : Answer} {o : Outcome} → Answered c a o → o.result ≢ 9
not_nine {c} (not_run f) = λ e. nine c (rw e at f.breaks)
not_nine {c} (did_run t) = λ e. omega (arith, ran_known c (omega (arith, e)))

-- ---- refusals

module _ {c : Call} where
  refused : {a : Answer} {o : Outcome} → Answered c a o → Refuses o
      → (place : ℕ) × First (RunBreaks c) o.result 0 place × (o ≡ outcome (answer o.result 0 place) c.state c.memory c.room)
  refused (not_run {i = i} f) h = (i, f, refl)
  refused (did_run t) h = absurd (omega (arith, h.0, ran_known c h.1))

  accepts : Taken c → ¬ Refuses (run_outcome c)
  accepts t = subst (λ (o : Outcome). ¬ Refuses o) (sym (taken_runs c t)) (λ h. omega (arith, h.0, ran_known c h.1))

-- ---- a call that runs

module _ (c : Call) where
  abbrev program : ℕ → Instruction Memory Change
  program = instructions c.table c.program

  abbrev machine : Situation Memory Change → Step (Situation Memory Change)
  machine = step change program

  module _ (t : Taken c) (l : Lent c) where
    abbrev o : Outcome
    o = left_by (ran_of c) c.room

    -- what was left, with the place as the image holds it
    at_place : (number count : ℕ) (room : List ℕ) → outcome (answer number count (ran_of c).state.place) o.state o.memory room ≡ left o number count room
    at_place number count room =
        ap (λ i. outcome (answer number count i) o.state o.memory room) (sym (left_held c t l).place)

    run_faulted : Faults o → Faulted c o
    run_faulted f =
        let r = ran_of c in
        let e = last machine c.n (state_of c) (λ z. omega (arith, (fault_range f).0, ap number_of z)) in
        let same : r.state ≡ e.before = unmoved change program r.ending e.before r.state e.ended (λ z. omega (arith, (fault_range f).1, ap number_of z)) in
        let paused : ran_of (with_limit r.count c) ≡ record { ending = Paused; count = r.count; state = r.state } = rw same e.paused in
        record {
          k = r.count;
          fewer = e.fewer;
          faulted = at_place (number_of r.ending) r.count c.room;
          paused =
              taken_runs (with_limit r.count c) (record { good = t.good; valid = t.valid })
              ∙ ap (λ (x : Ran (Situation Memory Change)). left_by x c.room) paused ∙ at_place 0 r.count c.room;
        }

    run_again : 11 ≤ o.result → (landing : List ℕ) (n : ℕ) → 1 ≤ n → run_outcome (second c o landing n) ≡ left o o.result 0 o.room
    run_again h landing zero some = absurd (omega arith)
    run_again h landing (suc n) some =
        let r = ran_of c in
        let p = words c.program in
        let d = second c o landing (suc n) in
        let e = last machine c.n (state_of c) (λ z. omega (arith, h, ap number_of z)) in
        let here = again change program (λ i f g m. halts (is_start p) (following p i) (operations_at p i) f m g) r.ending e.before r.state e.ended in
        let u = lending landing in_order r.state in
        let there = run_ended machine n r.ending u u (heedless change program r.ending r.state landing in_order here) in
        taken_runs d (next_taken c t l landing (suc n))
        ∙ ap (λ (s : Situation Memory Change). left_by (run machine (suc n) s) o.room) (next_state c t l landing (suc n))
        ∙ ap (λ (x : Ran (Situation Memory Change)). left_by x o.room) there
        ∙ at_place (number_of r.ending) 0 o.room

    run_none : c.n ≡ 0 → o ≡ outcome (answer 0 0 (place_in c.state)) c.state c.memory c.room
    run_none z =
        ap (λ n. left_by (run machine n (state_of c)) c.room) z
        ∙ ap (λ (i : List ℕ). outcome (answer 0 0 (place_in c.state)) i c.memory c.room) (image_read c.state (taken_fits t).state l.state)

  faulted : {a : Answer} {o : Outcome} → Answered c a o → Lent c → Faults o → Faulted c o
  faulted (not_run r) l f = absurd (omega (arith, (fault_range f).0, (numbers r.breaks).1))
  faulted (did_run t) l f = run_faulted t l f

  repeats : {a : Answer} {o : Outcome} → Answered c a o → Lent c → 11 ≤ o.result → (landing : List ℕ) (n : ℕ) → 1 ≤ n
      → run_outcome (second c o landing n) ≡ left o o.result 0 o.room
  repeats (not_run r) l h = absurd (omega (arith, (numbers r.breaks).1))
  repeats (did_run t) l h = run_again t l h

  none : {a : Answer} {o : Outcome} → Answered c a o → Lent c → c.n ≡ 0 → ¬ Refuses o → o ≡ outcome (answer 0 0 (place_in c.state)) c.state c.memory c.room
  none (not_run r) l z h = absurd (h (numbers r.breaks))
  none (did_run t) l z h = run_none t l z

  valid : {a : Answer} {o : Outcome} → Answered c a o → Lent c → ¬ Refuses o → bad_state (words c.program) o.state ≡ false
  valid (not_run r) l h = absurd (h (numbers r.breaks))
  valid (did_run t) l h = (left_held c t l).valid

  taken : {a : Answer} {o : Outcome} → Answered c a o → Lent c → ¬ Refuses o → (landing : List ℕ) (n : ℕ) → ¬ Refuses (run_outcome (second c o landing n))
  taken (not_run r) l h landing n = absurd (h (numbers r.breaks))
  taken (did_run t) l h landing n = accepts (next_taken c t l landing n)

pub demand_1 : Demand1
demand_1 = record {
  answered = λ c. kind (answered c);
  unchecked = λ c. not_nine (answered c);
  refused = λ c. refused (answered c);
  faulted = λ c. faulted c (answered c);
  again = λ c. repeats c (answered c);
  none = λ c. none c (answered c);
  valid = λ c. valid c (answered c);
  taken = λ c. taken c (answered c);
  rooms = rooms;
}
