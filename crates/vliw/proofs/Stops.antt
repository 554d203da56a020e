-- A step that ended the run ends it again: a fault changes nothing, and a stop leaves a state that stops.
use mathlib.Core.Path.{◌≡◌, refl, subst}
use mathlib.Core.Bool.{Bool, true, false}
use mathlib.Core.List.{List, map}
use Prim.Native.Nat.{ℕ}
use lib.ListN.{get_or-map}
use Rattle.word.specs.Choice.{pick}
use Rattle.vliw.specs.declared.Ending.{Ending}
use Rattle.vliw.specs.declared.Ending.TheVariants.{Faulted}
use Rattle.vliw.specs.declared.Fault.TheVariants.{InFlight}
use Rattle.vliw.specs.Run.{Step, ends}
use Rattle.vliw.specs.Cell.{Registers, still, rested}
use Rattle.vliw.specs.Machine.{Out, fault, stop, go, Instruction, uses, any_busy, Situation, finish, step}
use Rattle.word.proofs.Lists.{any_none_in}
use Rattle.vliw.proofs.Lists.{map_unseen}
use Rattle.vliw.proofs.Runs.{Keeps}
use Rattle.vliw.proofs.Flight.{acted}

-- a stop lets nothing fly on
rested_clear : (rs : List ℕ) (l : Registers) → any_busy rs (map rested l) ≡ false
rested_clear rs l = any_none_in _ rs (λ r m. rw (get_or-map rested l r still))

module _ {Memory Store : Type 0} (store : Store → Memory → Memory) (program : ℕ → Instruction Memory Store)
    (halts : (i : ℕ) (f g : List ℕ) (m : Memory) → (program i).acts f m ≡ stop → (program i).acts g m ≡ stop) where
  -- what a step ended in, it ends in once more
  abbrev Again : Step (Situation Memory Store) → Type 0
  Again = Keeps (λ t. Unit {0}) (λ e t. step store program t ≡ ends e t)

  stays : (s : Situation Memory Store) → Again (step store program s)
  stays s = by (any_busy (uses (program s.place)) s.registers) refl (acted program s) refl
    where
      by : (x : Bool) → any_busy (uses (program s.place)) s.registers ≡ x → (o : Out Store) → acted program s ≡ o
          → Again (pick x (ends (Faulted InFlight) s) (finish store (program s.place) s o))
      by true p o q = rw p
      by false p (fault f) q = rw (p, q)
      by false p stop q = rw (rested_clear, halts s.place _ _ s.memory q, map_unseen rested rested (λ c. refl))
      by false p (go vs ss j) q = tt

  pub again : (e : Ending) (s t : Situation Memory Store) → step store program s ≡ ends e t → step store program t ≡ ends e t
  again e s t h = subst Again h (stays s)
