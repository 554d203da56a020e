-- What is in flight has a producer as many nexts back as the register has fallen, so a program that passes meets no register in flight.
use mathlib.Core.Path.{◌≡◌, refl, ◌∙◌, ap}
use mathlib.Core.Logic.{◌≢◌}
use mathlib.Core.Bool.{Bool, true}
use mathlib.Core.List.Memᴰ
use mathlib.Core.List.{List, [], ◌∷◌, map, Memᴰ}
use Prim.Native.Nat.{ℕ, zero, suc, ◌+◌, ◌-◌, ◌≤◌, ◌<◌}
use native.Mathlib.Nat.{mod-lt}
use native.Mathlib.Omega.{arith}
use lib.Dec.{ltb}
use lib.ListN.{get_or-map}
use Rattle.word.proofs.Lists.{any_none_in}
use Rattle.vliw.specs.declared.Ending.TheVariants.{Faulted}
use Rattle.vliw.specs.declared.Fault.TheVariants.{InFlight}
use Rattle.vliw.specs.Run.{number_of}
use Rattle.vliw.specs.Cell.{Cell, Registers, Write, still, at, aged, aged_of, written, written_of, put, puts, choose}
use Rattle.vliw.specs.Machine.{Dest, Out, fault, stop, go, Instruction, uses, writes, AnyOrder, Situation, finish, step}
use Rattle.vliw.specs.Schedule.{Reach}
use Rattle.vliw.specs.Demand3.{Goes, next_to, anywhere, WellFormed, Scheduled}
use Rattle.vliw.proofs.Lists.{set_each, perm_mem}
use Rattle.vliw.proofs.Runs.{Keeps}
use Rattle.vliw.proofs.Order.{each_write}

-- what the instruction at the state's place does
abbrev pub acted : {Memory Store : Type 0} → (ℕ → Instruction Memory Store) → Situation Memory Store → Out Store
acted program s = (program s.place).acts (map (λ (c : Cell). c.value) s.registers) s.memory

choose_low : (L : ℕ) (bs : List ℕ) → 1 ≤ L → choose L bs ≤ L - 1
choose_low L [] h = omega arith
choose_low L (b ∷ bs) h = omega (arith, mod-lt b h)

-- what every register has, and each write gives, every register has after the writes
puts_each : (P : ℕ → Cell → Type 0) (ws : List Write) (l : Registers) → ((w : Write) → Memᴰ w ws → (c : Cell) → P w.reg (written w c))
    → ((r : ℕ) → P r (at l r)) → (r : ℕ) → P r (at (puts ws l) r)
puts_each P [] l gives h r = h r
puts_each P (w ∷ ws) l gives h r =
    let c = at l w.reg in
    puts_each P ws (put w l) (λ u m. gives u (Memᴰ.tail m)) (set_each P l w.reg (written w c) still (gives w (Memᴰ.head refl) c) h) r

module _ {Memory Store : Type 0} (program : ℕ → Instruction Memory Store) (starts : ℕ → Bool) where
  -- the producer of what is in flight in register r where i is next: k nexts back, and busy and k make up its delay
  pub record Flying (i r busy : ℕ) : Type 0 where
    maker : ℕ
    starting : starts maker ≡ true
    result : Dest
    of : Memᴰ result (program maker).dests
    k : ℕ
    after : 1 ≤ k
    path : Reach (λ p. (program p).nexts) maker k i
    reg : r ≡ result.reg
    sum : busy + k ≡ result.delay

  pub record Sound (i r : ℕ) (c : Cell) : Type 0 where
    pub low : c.landing ≤ c.busy
    pub flying : 0 < c.busy → Flying i r c.busy

  pub record Fine (s : Situation Memory Store) : Type 0 where
    pub place : starts s.place ≡ true
    pub cells : (r : ℕ) → Sound s.place r (at s.registers r)
    pub orders : AnyOrder s.orders

  -- where nothing was in flight nothing is
  aged_quiet : (j r v w b l : ℕ) → l ≤ b → b ≡ 0 → Sound j r (aged_of v w b l)
  aged_quiet j r v w b zero low e = record { low = omega arith; flying = λ h. absurd (omega arith) }
  aged_quiet j r v w b (suc l) low e = absurd (omega arith)

  -- an instruction that goes from i to a next j: what was in flight is one next further
  module _ {i j : ℕ} (on : Memᴰ j (program i).nexts) where
    further : {r b c : ℕ} → (0 < b → Flying i r b) → 0 < c → c + 1 ≡ b → Flying j r c
    further {r} {b} flying h e =
        let f : Flying i r b = flying (omega arith) in
        record {
          maker = f.maker;
          starting = f.starting;
          result = f.result;
          of = f.of;
          k = suc f.k;
          after = omega arith;
          path = (i, f.path, on);
          reg = f.reg;
          sum = omega arith;
        }

    aged_sound : (r v w b l : ℕ) → Sound i r record { value = v; waiting = w; busy = b; landing = l } → Sound j r (aged_of v w b l)
    aged_sound r v w b zero c = record { low = omega arith; flying = λ h. further c.flying h (omega arith) }
    aged_sound r v w b (suc zero) c = record { low = omega arith; flying = λ h. further c.flying h (omega arith) }
    aged_sound r v w b (suc (suc l)) c = record { low = omega arith; flying = λ h. further c.flying h (omega arith) }

    -- and what it writes is in flight from it
    module _ (starting : starts i ≡ true) {d : Dest} (of : Memᴰ d (program i).dests) where
      fresh : 0 < d.delay - 1 → Flying j d.reg (d.delay - 1)
      fresh h =
          record {
            maker = i;
            starting = starting;
            result = d;
            of = of;
            k = 1;
            after = omega arith;
            path = (i, refl, on);
            reg = refl;
            sum = omega arith;
          }

      written_sound : (old v l : ℕ) → l ≤ d.delay - 1 → Sound j d.reg (written_of old v (d.delay - 1) l)
      written_sound old v zero h = record { low = omega arith; flying = fresh }
      written_sound old v (suc l) h = record { low = h; flying = fresh }

-- wherever it goes, an instruction starts
pub arrives : {Memory Store : Type 0} {store : Store → Memory → Memory} {program : ℕ → Instruction Memory Store} {starts : ℕ → Bool}
    → WellFormed store program starts → {i j : ℕ} → starts i ≡ true → Goes program starts i j → starts j ≡ true
arrives loaded {i} {j} s (next_to on) = loaded.onward i j s on
arrives loaded s (anywhere start none all) = start

module _ {Memory Store : Type 0} {store : Store → Memory → Memory} {program : ℕ → Instruction Memory Store} {starts : ℕ → Bool}
    (loaded : WellFormed store program starts) (scheduled : Scheduled program starts) (s : Situation Memory Store) (fine : Fine program starts s) where
  -- what the instruction reads or writes is not in flight
  pub quiet : (r : ℕ) → Memᴰ r (uses (program s.place)) → (at s.registers r).busy ≡ 0
  quiet r m = omega (arith, caught)
    where
      caught : 0 < (at s.registers r).busy → ⊥
      caught h =
          let f : Flying program starts s.place r (at s.registers r).busy = (fine.cells r).flying h in
          scheduled f.maker s.place
          record {
            producer = f.starting;
            result = f.result;
            of = f.of;
            k = f.k;
            after = f.after;
            before = omega arith;
            path = f.path;
            touched = rw f.reg at m;
          }

  -- so it acts
  pub unhindered : step store program s ≡ finish store (program s.place) s (acted program s)
  unhindered = rw (any_none_in (λ r. ltb 0 (at s.registers r).busy) (uses (program s.place)) (λ r m. rw (quiet r m)))

  kept : (o : Out Store) → acted program s ≡ o → Keeps (Fine program starts) (λ e t. e ≢ Faulted InFlight) (finish store (program s.place) s o)
  kept (fault f) e = λ h. loaded.faults s.place _ s.memory fine.place (e ∙ ap fault (cc h))
  kept stop e = λ h. omega (arith, ap number_of h)
  kept (go vs ss j) e = by (loaded.goes s.place _ s.memory vs ss j fine.place e)
    where
      ds : List Dest
      ds = (program s.place).dests

      ws : List Write
      ws = writes ds vs s.landing

      arrived : starts j ≡ true → ((r : ℕ) → Sound program starts j r (aged (at s.registers r)))
          → ((w : Write) → Memᴰ w ws → (c : Cell) → Sound program starts j w.reg (written w c)) → Keeps (Fine program starts) (λ e t. e ≢ Faulted InFlight) (finish store (program s.place) s (go vs ss j))
      arrived start old new =
          record {
            place = start;
            cells =
                puts_each (Sound program starts j) (s.orders.results 0 ws) (map aged s.registers) (λ w m. new w (perm_mem (fine.orders.results 0 ws) m))
                (λ r. rw (get_or-map aged s.registers r still) (old r));
            orders = record { results = λ k. fine.orders.results (suc k); stores = λ k. fine.orders.stores (suc k) };
          }

      by : Goes program starts s.place j → Keeps (Fine program starts) (λ e t. e ≢ Faulted InFlight) (finish store (program s.place) s (go vs ss j))
      by (next_to on) =
          arrived (arrives loaded fine.place (next_to on)) (λ r. aged_sound program starts on r _ _ _ _ (fine.cells r))
          (λ w. each_write (λ u. (c : Cell) → Sound program starts j u.reg (written u c)) ds vs s.landing
          (λ d v bs of c. written_sound program starts on fine.place of _ _ _ (choose_low d.delay bs (loaded.delays s.place d fine.place of))))
      by (anywhere start none all) =
          arrived start (λ r. aged_quiet program starts j r _ _ _ _ (fine.cells r).low (silent r)) (λ w m. absurd (Memᴰ.not-nil (rw none at m)))
        where
          -- what was in flight would be read
          silent : (r : ℕ) → (at s.registers r).busy ≡ 0
          silent r = omega (arith, caught)
            where
              caught : 0 < (at s.registers r).busy → ⊥
              caught h =
                  let f : Flying program starts s.place r (at s.registers r).busy = (fine.cells r).flying h in
                  let read = all f.maker f.result f.starting f.of in
                  omega (arith, quiet r (Memᴰ.append_left _ (rw (← f.reg) at read)))

  pub keeps : Keeps (Fine program starts) (λ e t. e ≢ Faulted InFlight) (step store program s)
  keeps = rw unhindered (kept (acted program s) refl)
