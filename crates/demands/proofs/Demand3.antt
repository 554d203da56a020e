-- Demand 3 of run: the machine is an instance of the abstract one, whose demand 3 is proved.
use mathlib.Core.Path.{◌≡◌, refl, sym, ap, ◌∙◌}
use mathlib.Core.Logic.{◌≢◌, ⊎_elim}
use mathlib.Core.Bool.{false, not}
use mathlib.Core.List.Permᴰ
use mathlib.Core.List.{List, map}
use Prim.Native.Nat.{ℕ, ◌≤◌, zero-le}
use native.Mathlib.Omega.{arith}
use lib.Dec.{ltb}
use lib.ListN.{get_or-eq_default}
use borrow.Author.Tests.{ltb-true, ltb-false}
use Rattle.std.specs.Prelude.{Ok, Err}
use Rattle.word.specs.Bytes.{words}
use Rattle.word.proofs.Choice.{by_test, or_false}
use Rattle.vliw.specs.Run.{number_of, Ran, view_ran}
use Rattle.vliw.specs.Cell.{Registers, still, at, landed}
use Rattle.vliw.specs.Machine.{Orders, in_order, AnyOrder}
use Rattle.vliw.specs.Plain.{Plain}
use Rattle.vliw.specs.Demand3.{settled, Quiet, Unseen}
use Rattle.vliw.proofs.Demand3.{demand_3 as machine-demand-3}
use Rattle.isa.specs.Program.{is_start}
use Rattle.tables.specs.Table.{table_of}
use Rattle.tables.specs.Bounds.{Bounds}
use Rattle.tables.proofs.Bounds.{bounds}
use Rattle.loader.specs.Load.{Loaded, loaded_of}
use Rattle.loader.specs.Answer.{answer, room_with}
use Rattle.loader.specs.declared.Answer.{Answer}
use Rattle.loader.specs.Passed.{Passed}
use Rattle.loader.proofs.Refusals.{passed, accepted}
use Rattle.schedule.specs.Rule.{Verdict, Says}
use Rattle.schedule.specs.Answer.{verdict_answer, AnswersBy}
use Rattle.std.specs.Prelude.{Ok, Err}
use Rattle.machine.specs.Link.{Memory, Change, change}
use Rattle.machine.specs.Image.{place_in, registers_in}
use Rattle.machine.specs.Valid.{bad_state}
use Rattle.call.specs.Run.{Call, Outcome, state_of, ran_of, done_by, done_of, run_outcome}
use Rattle.machine.proofs.Images.{registers_length}
use Rattle.call.proofs.Instance.{loaded_machine}
use Rattle.machine.proofs.Validity.{registers_valid}
use Rattle.demands.specs.Calls.{Lent, with_landing, Refuses}
use Rattle.demands.specs.Exact.{nothing}
use Rattle.demands.specs.Demand3.{Passes, NothingInFlight, instructions, start, plain_ran, Plainly, Alike, Demand3}
use Rattle.demands.proofs.Exact.{numbers, first, LoadSays, load_says}
use Rattle.demands.proofs.Endings.{in_flight}
use Rattle.demands.proofs.Taken.{left_by, given, found, Taken, Answered, not_run, did_run, answered}
use Rattle.demands.proofs.Held.{begins, left_held}

-- ---- a program that passes

-- what check's 0 says of it
record Clear (table program : List ℕ) : Type 0 where
  passes : Passed (table_of table) (words program)
  within : Bounds (table_of table)
  clean : Says (table_of table).delays (words program) (Ok tt)

module _ (table program room : List ℕ) where
  judged : (v : Verdict) → Says (table_of table).delays (words program) v → (verdict_answer v).number ≡ 0 → Says (table_of table).delays (words program) (Ok tt)
  judged (Ok _) h e = h
  judged (Err _) h e = absurd (omega (arith, e))

  clear : (l : Loaded) → loaded_of table program room ≡ l → LoadSays table program room nothing l → (a : Answer) → AnswersBy l table program a
      → a.number ≡ 0 → Clear table program
  clear (Err r) e (first f g) a h z = absurd (omega (arith, numbers g.breaks, ap (λ (x : Answer). x.number) (h ∙ f), z))
  clear (Ok tt) e l a (v, says, h) z =
      let k = accepted _ table program e in
      record {
        passes = passed (table_of table) (words program) k.tested;
        within = bounds table k.limits;
        clean = judged v says (sym (ap (λ (x : Answer). x.number) h) ∙ z);
      }

cleared : (table program : List ℕ) → Passes table program → Clear table program
cleared table program p =
    let (a, h, e) = p.checks in
    clear table program p.room (loaded_of table program p.room) refl (load_says table program p.room nothing) a h (sym (ap (λ o. o.result) e) ∙ p.clean)

-- ---- a valid start with nothing in flight

low : (l : Registers) (r : ℕ) → at l r ≡ still → (at l r).landing ≤ (at l r).busy
low l r e = rw e zero-le

quiet : (p image memory landing : List ℕ) (orders : Orders Change) → bad_state p image ≡ false → NothingInFlight image → AnyOrder orders
    → Quiet (is_start p) (start image memory landing orders)
quiet p image memory landing orders h q o =
    let (place, whole) = begins p image h in
    let l = registers_in image in
    let valid = registers_valid l (or_false (not (is_start p (place_in image))) _ whole).1 in
    record {
      place = place;
      valid = λ r.
          ⊎_elim
          (λ e. (valid r (ltb-true r 288 e)).landing)
          (λ e. low l r (get_or-eq_default l still (omega (arith, ltb-false r 288 e, registers_length image))))
          (by_test (ltb r 288));
      quiet = q;
      orders = o;
    }

unseen : (table program : List ℕ) → Passes table program → (image : List ℕ) → bad_state (words program) image ≡ false → NothingInFlight image
    → (memory landing : List ℕ) (orders : Orders Change) → AnyOrder orders → (n : ℕ)
    → Unseen change (instructions table program) (start image memory landing orders) n
unseen table program p image h q memory landing orders o n =
    let k = cleared table program p in
    machine-demand-3 Memory Change change (instructions table program) (is_start (words program)) (loaded_machine k.passes k.within) k.clean
    (start image memory landing orders) (quiet (words program) image memory landing orders h q o) n

-- ---- a call

in_order_lem : AnyOrder {Store = Change} in_order
in_order_lem = record { results = λ k ws. Permᴰ.refl ws; stores = λ k ss. Permᴰ.refl ss }

module _ (c : Call) (p : Passes c.table c.program) (q : NothingInFlight c.state) where
  call_unseen : Taken c → Unseen change (instructions c.table c.program) (state_of c) c.n
  call_unseen t = unseen c.table c.program p c.state t.valid q c.memory c.landing in_order in_order_lem c.n

  unfaulted : {a : Answer} {o : Outcome} → Answered c a o → o.result ≢ 11
  unfaulted (not_run f) = λ e. omega (arith, numbers f.breaks)
  unfaulted (did_run t) = λ e. (call_unseen t).unfaulted (in_flight (ran_of c).ending e)

  module _ (l : Lent c) where
    plainly : Taken c → Plainly c (left_by (ran_of c) c.room)
    plainly t =
        let e : view_ran settled (ran_of c) ≡ plain_ran c = (call_unseen t).same in
        let h = left_held c t l in
        record {
          number = ap (λ (r : Ran (Plain Memory)). number_of r.ending) e;
          room = ap (λ (r : Ran (Plain Memory)). room_with (answer (number_of r.ending) r.count r.state.place) c.room) e;
          memory = ap (λ (r : Ran (Plain Memory)). r.state.memory.bytes) e;
          place = h.place ∙ ap (λ (r : Ran (Plain Memory)). r.state.place) e;
          registers = ap (map landed) h.registers ∙ ap (λ (r : Ran (Plain Memory)). r.state.registers) e;
          link = h.link ∙ ap (λ (r : Ran (Plain Memory)). r.state.memory.link) e;
        }

    plain : {a : Answer} {o : Outcome} → Answered c a o → ¬ Refuses o → Plainly c o
    plain (not_run f) h = absurd (h (numbers f.breaks))
    plain (did_run t) h = plainly t

-- the plain machine takes no landing bytes
both : (c : Call) (landing : List ℕ) {a b : Outcome} → Plainly c a → Plainly (with_landing landing c) b → Alike a b
both c landing x y =
    record {
      number = x.number ∙ sym y.number;
      room = x.room ∙ sym y.room;
      memory = x.memory ∙ sym y.memory;
      place = x.place ∙ sym y.place;
      registers = x.registers ∙ sym y.registers;
      link = x.link ∙ sym y.link;
    }

module _ (c : Call) (l : Lent c) (p : Passes c.table c.program) (q : NothingInFlight c.state) (landing : List ℕ) where
  abbrev other : Call
  other = with_landing landing c

  both_run : Taken c → Alike (left_by (ran_of c) c.room) (left_by (ran_of other) c.room)
  both_run t =
      let x = plainly c p q l t in
      let y = plainly other p q (record { state = l.state; memory = l.memory }) (record { good = t.good; valid = t.valid }) in
      both c landing x y

  alike : Alike (run_outcome c) (run_outcome other)
  unfolding done_of
  alike = by (found c) refl
    where
      by : (x : Loaded) → found c ≡ x → Alike (given (done_by x c) c.room) (given (done_by x other) c.room)
      by (Err r) e = record { number = refl; room = refl; memory = refl; place = refl; registers = refl; link = refl }
      by (Ok tt) e =
          ⊎_elim
          (λ b. rw b (record { number = refl; room = refl; memory = refl; place = refl; registers = refl; link = refl }))
          (λ b. rw b (both_run (record { good = e; valid = b })))
          (by_test (bad_state (words c.program) c.state))

pub demand_3 : Demand3
demand_3 = record {
  unseen = unseen;
  alike = λ c l p q landing. alike c l p q landing;
  linked = λ a b apart same. apart same.link;
  plain = λ c l p q. plain c p q l (answered c);
  unfaulted = λ c p q. unfaulted c p q (answered c);
}
