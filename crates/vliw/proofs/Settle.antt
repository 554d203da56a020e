-- Settling takes a step of the machine to a step of the plain machine: what is in flight is not read, and it lands as the plain machine wrote it.
use mathlib.Core.Path.{◌≡◌, refl, ◌∙◌, ap}
use mathlib.Core.Bool.{Bool}
use mathlib.Core.List.Memᴰ
use mathlib.Core.List.{List, [], ◌∷◌, map, Memᴰ}
use Prim.Native.Nat.{ℕ, zero, suc}
use native.Mathlib.Omega.{arith}
use lib.ListN.{get_or, get_or-map}
use Rattle.vliw.specs.Run.{view_step}
use Rattle.vliw.specs.Cell.{Cell, Registers, still, at, landed, landed_of, rested, aged, aged_of, written_of, puts, others}
use Rattle.vliw.specs.Machine.{Dest, Out, fault, stop, go, Instruction, writes, Situation, finish, step}
use Rattle.vliw.specs.Plain.{assign, finish_plain, step_plain}
use Rattle.vliw.specs.Demand3.{WellFormed, Scheduled, settled}
use Rattle.vliw.proofs.Lists.{map_set, map_unseen}
use Rattle.vliw.proofs.Order.{stores_order, results_order}
use Rattle.vliw.proofs.Flight.{acted, Fine, quiet, unhindered}

landed_aged : (v w b l : ℕ) → landed (aged_of v w b l) ≡ landed_of v w l
landed_aged v w b zero = refl
landed_aged v w b (suc zero) = refl
landed_aged v w b (suc (suc l)) = refl

landed_written : (old v b l : ℕ) → landed (written_of old v b l) ≡ v
landed_written old v b zero = refl
landed_written old v b (suc l) = refl

landed_puts : (ds : List Dest) (vs bs : List ℕ) (l : Registers) → map landed (puts (writes ds vs bs) l) ≡ assign ds vs (map landed l)
landed_puts [] vs bs l = refl
landed_puts (d ∷ ds) [] bs l = refl
landed_puts (d ∷ ds) (v ∷ vs) bs l = rw (landed_puts ds vs (others bs), map_set landed, landed_written)

module _ {Memory Store : Type 0} {store : Store → Memory → Memory} {program : ℕ → Instruction Memory Store} {starts : ℕ → Bool}
    (loaded : WellFormed store program starts) (scheduled : Scheduled program starts) (s : Situation Memory Store) (fine : Fine program starts s) where
  settled_out : (o : Out Store) → acted program s ≡ o
      → view_step settled (finish store (program s.place) s o) ≡ finish_plain store (program s.place) (settled s) o
  settled_out (fault f) e = refl
  settled_out stop e = rw (map_unseen landed rested (λ c. refl))
  settled_out (go vs ss j) e =
      let I = program s.place in
      rw (
        results_order I.dests vs s.landing (loaded.apart s.place fine.place) (fine.orders.results 0 _),
        stores_order store (fine.orders.stores 0 ss) (loaded.commutes s.place _ s.memory vs ss j fine.place e),
        landed_puts,
        map_unseen landed aged (λ c. landed_aged c.value c.waiting c.busy c.landing),
      )
      refl

  -- what the instruction reads has landed
  read : (r : ℕ) → Memᴰ r (program s.place).reads → get_or (map (λ (c : Cell). c.value) s.registers) r 0 ≡ get_or (map landed s.registers) r 0
  read r m =
      let idle = quiet loaded scheduled s fine r (Memᴰ.append_left _ m) in
      let arrived : (at s.registers r).landing ≡ 0 = omega (arith, (fine.cells r).low) in
      rw (get_or-map (λ (c : Cell). c.value) s.registers r still, get_or-map landed s.registers r still, arrived)

  pub square : view_step settled (step store program s) ≡ step_plain store program (settled s)
  square =
      rw (unhindered loaded scheduled s fine)
      (settled_out (acted program s) refl ∙ ap (finish_plain store (program s.place) (settled s)) (loaded.reading s.place _ _ s.memory fine.place read))
