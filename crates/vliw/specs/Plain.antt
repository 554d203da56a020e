-- The plain machine: every result lands before the next instruction. It has no busy, landing or waiting.
use Rattle.std.specs.Prelude.{List, [], ◌∷◌, ℕ, set}
use Rattle.vliw.specs.declared.Ending.TheVariants.{Stopped, Faulted}
use Rattle.vliw.specs.Run.{Step, ends, next}
use Rattle.vliw.specs.Machine.{Dest, Out, fault, stop, go, Instruction, stores}

pub record Plain (Memory : Type 0) : Type 0 where
  pub place : ℕ
  pub registers : List ℕ
  pub memory : Memory

abbrev pub assign : List Dest → List ℕ → List ℕ → List ℕ
assign [] vs l = l
assign (d ∷ ds) [] l = l
assign (d ∷ ds) (v ∷ vs) l = assign ds vs (set l d.reg v)

module _ {Memory Store : Type 0} (store : Store → Memory → Memory) where
  abbrev pub finish_plain : Instruction Memory Store → Plain Memory → Out Store → Step (Plain Memory)
  finish_plain I s (fault f) = ends (Faulted f) s
  finish_plain I s stop = ends Stopped s
  finish_plain I s (go vs ss j) =
      next record { place = j; registers = assign I.dests vs s.registers; memory = stores store ss s.memory }

  abbrev pub step_plain : (ℕ → Instruction Memory Store) → Plain Memory → Step (Plain Memory)
  step_plain program s = let I = program s.place in finish_plain I s (I.acts s.registers s.memory)
