-- Laws of a run: of its turns, one after the other, and of the state that it is left in.
use mathlib.Core.Path.{◌≡◌, refl, sym, ◌∙◌, ap, subst}
use mathlib.Core.Bool.{false, ◌&&◌}
use mathlib.Core.List.{List, map}
use Prim.Native.Nat.{ℕ, suc, ◌+◌, ◌*◌, ◌-◌, ◌≤◌, ◌<◌}
use native.Mathlib.Omega.{arith}
use native.Mathlib.Nat.{add-zero, zero-add, sub-zero}
use lib.Dec.{eqb}
use lib.ListN.{drop}
use borrow.Author.Tests.{eqb-true, not-false}
use Rattle.word.specs.Lists.{any_below}
use Rattle.word.proofs.Choice.{or_false, and_true}
use Rattle.word.proofs.Lists.{any_below_false}
use Rattle.vliw.specs.Run.{Step, ends, next, run}
use Rattle.vliw.specs.Cell.{Registers, at, rested}
use Rattle.vliw.specs.Machine.{Situation, in_order, step}
use Rattle.vliw.specs.declared.Ending.{Ending}
use Rattle.vliw.specs.declared.Ending.TheVariants.{Paused, Stopped, Faulted}
use Rattle.isa.specs.declared.Delays.{Delays}
use Rattle.machine.specs.Link.{Memory, Change, memory_of, change}
use Rattle.machine.specs.Instruction.{instruction_of}
use Rattle.machine.specs.State.{registers_of, Sized}
use Rattle.machine.specs.Valid.{all_zero, bad_register}
use Rattle.ticks.specs.Ticks.{views, Bank}
use Rattle.ticks.specs.declared.Register.{Register}
use Rattle.turn.specs.Turn.{situation_at, beside, ended_by, Running, Moved, Halted}
use Rattle.run.specs.Loop.{Finished, after, Returned, left_at}
use Rattle.turn.specs.declared.Point.{Point}
use Rattle.run.specs.declared.Ended.{Ended}
use Rattle.run.specs.declared.Left.{Left}
use Rattle.ticks.proofs.Views.{bank_later, views_rested}

-- ---- its turns

module _ (f : Situation Memory Change → Step (Situation Memory Change)) (n k : ℕ) (s a : Situation Memory Change) (h : k < n) where
  pub turn_next : f s ≡ next a → after k (run f (n - k) s) ≡ after (k + 1) (run f (n - (k + 1)) a)
  turn_next e =
      let p : n - k ≡ suc (n - (k + 1)) = omega arith in
      let c : k + suc (run f (n - (k + 1)) a).count ≡ k + 1 + (run f (n - (k + 1)) a).count = omega arith in
      rw (p, e, c)

  pub turn_last : (x : Ending) → f s ≡ ends x a → after k (run f (n - k) s) ≡ record { ending = x; count = k; state = a }
  turn_last x e =
      let p : n - k ≡ suc (n - (k + 1)) = omega arith in
      rw (p, e, add-zero)

pub run_begun : (f : Situation Memory Change → Step (Situation Memory Change)) (n : ℕ) (s : Situation Memory Change) → after 0 (run f (n - 0) s) ≡ run f n s
run_begun f n s = rw (sub-zero, zero-add)

pub run_paused : (f : Situation Memory Change → Step (Situation Memory Change)) (n k : ℕ) (s : Situation Memory Change) → n ≤ k
    → after k (run f (n - k) s) ≡ record { ending = Paused; count = k; state = s }
run_paused f n k s h = let p : n - k ≡ 0 = omega arith in rw (p, add-zero)

-- what the loop keeps: k instructions are done, and the rest of the run is from where it stands
pub record Going (d : Delays) (p landing : List ℕ) (n k : ℕ) (s : Situation Memory Change) (at : Point) (rs : List Register) (m : List ℕ) : Type 0 where
  pub running : Running k p at rs
  pub used : at.used ≤ 64 * k
  pub is : run (step change (instruction_of d p)) n s
      ≡ after k (run (step change (instruction_of d p)) (n - k) (situation_at at.place.0 (views k rs) (beside m at.link) landing at.used))

-- none is done
pub loop_begun : {d : Delays} {p landing : List ℕ} {n : ℕ} {at : Point} {rs : List Register} {m : List ℕ} → Running 0 p at rs → at.used ≡ 0
    → Going d p landing n 0 (situation_at at.place.0 (views 0 rs) (beside m at.link) landing 0) at rs m
loop_begun {d} {p} {landing} {n} h e =
    record { running = h; used = omega arith; is = rw e (sym (run_begun (step change (instruction_of d p)) n _)) }

module _ {d : Delays} {p landing : List ℕ} {n k : ℕ} {s : Situation Memory Change} {at : Point} {us rs : List Register} {l m : List ℕ} (g : Going d p landing n k s at us l) (less : k < n) where
  -- after a turn that went on
  pub loop_on : {to : Point} → Moved d p landing k at (situation_at at.place.0 (views k us) (beside l at.link) landing at.used) to rs m → Going d p landing n (k + 1) s to rs m
  loop_on t = record { running = t.running; used = omega (arith, g.used, t.few); is = g.is ∙ turn_next (step change (instruction_of d p)) n k _ _ less t.is }

  -- a turn that ended the run finishes it
  pub loop_off : {e : Ending} → Halted d p landing k at (situation_at at.place.0 (views k us) (beside l at.link) landing at.used) e rs m
      → Finished d p landing n s (record { ending = e; count = record { 0 = k }; at = at }) rs m
  loop_off {e} t =
      record { few = omega arith; bank = t.running.bank; start = t.running.start; low = t.running.low; is = g.is ∙ turn_last (step change (instruction_of d p)) n k _ _ less e t.is }

-- all of them
pub loop_done : {d : Delays} {p landing : List ℕ} {n k : ℕ} {s : Situation Memory Change} {at : Point} {rs : List Register} {m : List ℕ} → Going d p landing n k s at rs m → k ≤ n → n ≤ k
    → Finished d p landing n s (record { ending = Paused; count = record { 0 = n }; at = at }) rs m
loop_done {d} {p} {landing} {n} {k} {s} {at} {rs} {m} g h i =
    let e : k ≡ n = omega arith in
    let f = subst (λ x. Going d p landing n x s at rs m) e g in
    record { few = omega arith; bank = f.running.bank; start = f.running.start; low = f.running.low; is = f.is ∙ run_paused (step change (instruction_of d p)) n n _ (omega arith) }

-- ---- the state that it leaves

-- register 0 of a valid state is all zero
pub zero_idle : (l : Registers) → any_below (λ r. bad_register r (at l r)) 288 ≡ false → (at l 0).busy ≡ 0
zero_idle l h =
    let c = at l 0 in
    let (four, branch) = or_false _ _ (any_below_false (λ r. bad_register r (at l r)) 288 h 0 (omega arith)) in
    let (three, waits) = or_false _ _ four in
    let (two, over) = or_false _ _ three in
    let (filled, under) = or_false _ _ two in
    let values = eqb c.value 0 && eqb c.waiting 0 in
    let (more, landing) = and_true (values && eqb c.busy 0) _ (not-false (all_zero c) filled) in
    eqb-true c.busy 0 (and_true values _ more).1

-- what an ending leaves of the registers
abbrev left_of : Ending → Registers → Registers
left_of Paused l = l
left_of Stopped l = map rested l
left_of (Faulted f) l = l

module _ {k : ℕ} {rs : List Register} (z : Bank k rs) where
  pub left_bank : (x : Ending) → Bank (left_at x k) rs
  left_bank Paused = z
  left_bank Stopped = bank_later z (omega arith)
  left_bank (Faulted f) = z

  left_views : (x : Ending) → views (left_at x k) rs ≡ left_of x (views k rs)
  left_views Paused = refl
  left_views Stopped = views_rested z (k + 8) (omega arith)
  left_views (Faulted f) = refl

-- a stop changes no more than the registers
ended_as : (x : Ending) (s : Situation Memory Change)
    → ended_by x s ≡ record { place = s.place; registers = left_of x s.registers; memory = s.memory; landing = s.landing; orders = s.orders }
ended_as Paused s = refl
ended_as Stopped s = refl
ended_as (Faulted f) s = refl

pub returned : {d : Delays} {p landing : List ℕ} {n : ℕ} {k l : Registers} {place link₀ : ℕ} {m₀ : List ℕ} {r : Ended} {rs : List Register} {m : List ℕ} {x : Left}
    → k ≡ l
    → Finished d p landing n (situation_at place k (memory_of m₀ link₀) landing 0) r rs m
    → Sized x.state → x.ending ≡ r.ending → x.count.0 ≡ r.count.0 → x.state.place.0 ≡ r.at.place.0 → x.state.link.0 ≡ r.at.link.place.0
    → registers_of x.state ≡ views (left_at r.ending r.count.0) rs
    → Returned (run (step change (instruction_of d p)) n (record { place = place; registers = l; memory = memory_of m₀ link₀; landing = landing; orders = in_order })) x m
returned {d} {p} {landing} {n} {k} {l} {place} {link₀} {m₀} {r} {rs} {m} {x} e f sized ending count place' link' registers =
    let o : run (step change (instruction_of d p)) n (record { place = place; registers = l; memory = memory_of m₀ link₀; landing = landing; orders = in_order })
    ≡ record {
      ending = r.ending;
      count = r.count.0;
      state =
          record {
            place = r.at.place.0;
            registers = left_of r.ending (views r.count.0 rs);
            memory = beside m r.at.link;
            landing = drop r.at.used landing;
            orders = in_order;
          };
    } = rw (← e) (f.is ∙ rw (ended_as r.ending)) in
    record {
      sized = sized;
      ending = ap (λ q. q.ending) o ∙ sym ending;
      count = ap (λ q. q.count) o ∙ sym count;
      place = ap (λ q. q.state.place) o ∙ sym place';
      registers = ap (λ q. q.state.registers) o ∙ sym (registers ∙ left_views f.bank r.ending);
      memory = ap (λ q. q.state.memory.bytes) o;
      link = ap (λ q. q.state.memory.link) o ∙ sym link';
    }
