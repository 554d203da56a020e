-- Private to the code, nobody has to believe it: the state as the code holds it, arrays of values, waiting values, busy and landing counts, general and branch.
use Rattle.std.specs.Prelude.{◌≡◌, List, [], ◌∷◌, ◌++◌, ℕ, length}
use Rattle.vliw.specs.Cell.{Cell, Registers}
use Rattle.machine.specs.declared.State.{State}
use Rattle.machine.specs.declared.Cell.{Cell as Kept}

-- a register that the code keeps
abbrev pub cell_of : Kept → Cell
cell_of c = record { value = c.value; waiting = c.waiting; busy = c.busy; landing = c.landing }

-- four arrays as registers
abbrev pub cells : List ℕ → List ℕ → List ℕ → List ℕ → Registers
cells [] ws bs ls = []
cells (v ∷ vs) [] bs ls = []
cells (v ∷ vs) (w ∷ ws) [] ls = []
cells (v ∷ vs) (w ∷ ws) (b ∷ bs) [] = []
cells (v ∷ vs) (w ∷ ws) (b ∷ bs) (l ∷ ls) = record { value = v; waiting = w; busy = b; landing = l } ∷ cells vs ws bs ls

-- general, then branch registers
abbrev pub registers_of : State → Registers
registers_of s =
    cells s.value s.waiting s.busy s.landing
    ++ cells s.branch_value s.branch_waiting s.branch_busy s.branch_landing

-- "the 256 general and 32 branch registers"
pub record Sized (s : State) : Type 0 where
  pub value : length s.value ≡ 256
  pub waiting : length s.waiting ≡ 256
  pub busy : length s.busy ≡ 256
  pub landing : length s.landing ≡ 256
  pub branch_value : length s.branch_value ≡ 32
  pub branch_waiting : length s.branch_waiting ≡ 32
  pub branch_busy : length s.branch_busy ≡ 32
  pub branch_landing : length s.branch_landing ≡ 32
