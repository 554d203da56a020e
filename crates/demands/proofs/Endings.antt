-- Laws of how a run ends: where it stood before its last step, and that this step ends every run from there.
use mathlib.Core.Path.{◌≡◌, refl, ap, subst}
use mathlib.Core.Logic.{◌≢◌, ◌⊎◌, inl, inr, ⊎_elim}
use mathlib.Core.Bool.{Bool, true, false}
use mathlib.Core.List.{List, map}
use Prim.Native.Nat.{ℕ, zero, suc, ◌≤◌, ◌<◌}
use native.Mathlib.Omega.{arith}
use Rattle.word.specs.Choice.{pick}
use Rattle.vliw.specs.declared.Ending.{Ending}
use Rattle.vliw.specs.declared.Ending.TheVariants.{Paused, Stopped, Faulted}
use Rattle.vliw.specs.declared.Fault.TheVariants.{InFlight, Misaligned, OutOfBounds, StoresClash, BadLink}
use Rattle.vliw.specs.Run.{number_of, Step, ends, next, Ran, counted, onward, run}
use Rattle.vliw.specs.Cell.{rested}
use Rattle.vliw.specs.Machine.{Out, fault, stop, go, Instruction, uses, any_busy, Orders, Situation, finish, step}
use Rattle.vliw.proofs.Flight.{acted}

-- the kinds of ending, by their numbers
pub ending_number : (e : Ending) → let k = number_of e in (k ≡ 0) ⊎ (k ≡ 255) ⊎ (((11 ≤ k) × (k ≤ 14)) ⊎ (k ≡ 17))
ending_number Paused = inl refl
ending_number Stopped = inr (inl refl)
ending_number (Faulted InFlight) = inr (inr (inl (omega arith, omega arith)))
ending_number (Faulted Misaligned) = inr (inr (inl (omega arith, omega arith)))
ending_number (Faulted OutOfBounds) = inr (inr (inl (omega arith, omega arith)))
ending_number (Faulted StoresClash) = inr (inr (inl (omega arith, omega arith)))
ending_number (Faulted BadLink) = inr (inr (inr refl))

-- 11 is the number of one ending only
pub in_flight : (e : Ending) → number_of e ≡ 11 → e ≡ Faulted InFlight
in_flight Paused h = absurd (omega (arith, h))
in_flight Stopped h = absurd (omega (arith, h))
in_flight (Faulted InFlight) h = refl
in_flight (Faulted Misaligned) h = absurd (omega (arith, h))
in_flight (Faulted OutOfBounds) h = absurd (omega (arith, h))
in_flight (Faulted StoresClash) h = absurd (omega (arith, h))
in_flight (Faulted BadLink) h = absurd (omega (arith, h))

-- what every fault's number has
pub fault_range : {k : ℕ} → ((11 ≤ k) × (k ≤ 14)) ⊎ (k ≡ 17) → (11 ≤ k) × (k ≤ 17)
fault_range {k} f = ⊎_elim (λ (p, q). (p, omega arith)) (λ (e : k ≡ 17). (omega arith, omega arith)) f

module _ {S : Type 0} (f : S → Step S) where
  -- the last step of a run of at most n steps that does not pause
  pub record Last (n : ℕ) (s : S) (r : Ran S) : Type 0 where
    pub before : S
    pub fewer : r.count < n
    pub paused : run f r.count s ≡ record { ending = Paused; count = r.count; state = before }
    pub ended : f before ≡ ends r.ending r.state

  pub last : (n : ℕ) (s : S) → (run f n s).ending ≢ Paused → Last n s (run f n s)
  last zero s h = absurd (h refl)
  last (suc n) s h = by (last n) (f s) refl h
    where
      by : ((t : S) → (run f n t).ending ≢ Paused → Last n t (run f n t)) → (a : Step S) → f s ≡ a → (onward a (λ t. run f n t)).ending ≢ Paused
          → Last (suc n) s (onward a (λ t. run f n t))
      by more (ends end t) e h = record { before = s; fewer = omega arith; paused = refl; ended = e }
      by more (next t) e h =
          let l = more t h in
          record { before = l.before; fewer = omega (arith, l.fewer); paused = rw e (ap counted l.paused); ended = l.ended }

  -- a run from a state whose step ends it
  pub run_ended : (n : ℕ) (e : Ending) (s t : S) → f s ≡ ends e t → run f (suc n) s ≡ record { ending = e; count = 0; state = t }
  run_ended n e s t h = rw h

  -- the ending and the state of a step that ends the run
  same_end : {d e : Ending} {s t : S} → ends d s ≡ ends e t → (d ≡ e) × (s ≡ t)
  same_end h =
      let paused : S → Ran S = λ u. record { ending = Paused; count = 0; state = u } in
      (ap (λ a. (onward a paused).ending) h, ap (λ a. (onward a paused).state) h)

-- the same state with other landing bytes and orders
abbrev pub lending : {Memory Store : Type 0} → List ℕ → Orders Store → Situation Memory Store → Situation Memory Store
lending landing orders s =
    record { place = s.place; registers = s.registers; memory = s.memory; landing = landing; orders = orders }

module _ {Memory Store : Type 0} (store : Store → Memory → Memory) (program : ℕ → Instruction Memory Store) where
  -- only a stop changes the state it ends in
  abbrev Unmoved : Situation Memory Store → Step (Situation Memory Store) → Type 0
  Unmoved s (ends e t) = e ≢ Stopped → t ≡ s
  Unmoved s (next t) = Unit {0}

  pub unmoved : (e : Ending) (s t : Situation Memory Store) → step store program s ≡ ends e t → e ≢ Stopped → t ≡ s
  unmoved e s t h = subst (Unmoved s) h (by (any_busy (uses (program s.place)) s.registers) (acted program s))
    where
      by : (x : Bool) (o : Out Store) → Unmoved s (pick x (ends (Faulted InFlight) s) (finish store (program s.place) s o))
      by true o = λ h. refl
      by false (fault f) = λ h. refl
      by false stop = λ h. absurd (h refl)
      by false (go vs ss j) = tt

  -- landing bytes and orders do not decide whether a step ends the run
  pub heedless : (e : Ending) (s : Situation Memory Store) (landing : List ℕ) (orders : Orders Store) → step store program s ≡ ends e s
      → step store program (lending landing orders s) ≡ ends e (lending landing orders s)
  heedless e s landing orders = by (any_busy (uses (program s.place)) s.registers) (acted program s)
    where
      u : Situation Memory Store
      u = lending landing orders s

      by : (x : Bool) (o : Out Store) → pick x (ends (Faulted InFlight) s) (finish store (program s.place) s o) ≡ ends e s
          → pick x (ends (Faulted InFlight) u) (finish store (program s.place) u o) ≡ ends e u
      by true o h = ap (λ d. ends d u) (same_end (step store program) h).0
      by false (fault f) h = ap (λ d. ends d u) (same_end (step store program) h).0
      by false stop h =
          let (ending, state) = same_end (step store program) h in
          let registers : map rested s.registers ≡ s.registers = ap (λ t. t.registers) state in
          rw (registers, ending)
      by false (go vs ss j) h = cc
