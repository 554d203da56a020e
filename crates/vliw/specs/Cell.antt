-- "Each register holds its value, a waiting value, busy and landing."
use Rattle.std.specs.Prelude.{List, [], ◌∷◌, ℕ, zero, suc, ◌-◌, ◌%◌, get_or, set}

pub record Cell : Type 0 where
  pub value : ℕ
  pub waiting : ℕ
  pub busy : ℕ
  pub landing : ℕ

abbrev pub Registers : Type 0
Registers = List Cell

abbrev pub still : Cell
still = record { value = 0; waiting = 0; busy = 0; landing = 0 }

abbrev pub at : Registers → ℕ → Cell
at l r = get_or l r still

-- the value once everything in flight has landed: the waiting one where landing is above 0
abbrev pub landed_of : ℕ → ℕ → ℕ → ℕ
landed_of v w zero = v
landed_of v w (suc l) = w

abbrev pub landed : Cell → ℕ
landed c = landed_of c.value c.waiting c.landing

-- a stop lands everything and zeroes busy
abbrev pub rested : Cell → Cell
rested c = record { value = landed c; waiting = 0; busy = 0; landing = 0 }

-- "At the end of each later instruction busy and landing above 0 fall by one; landing that reaches 0 lands the value and zeroes the waiting one."
abbrev pub aged_of : ℕ → ℕ → ℕ → ℕ → Cell
aged_of v w b zero = record { value = v; waiting = w; busy = b - 1; landing = 0 }
aged_of v w b (suc zero) = record { value = w; waiting = 0; busy = b - 1; landing = 0 }
aged_of v w b (suc (suc l)) = record { value = v; waiting = w; busy = b - 1; landing = suc l }

abbrev pub aged : Cell → Cell
aged c = aged_of c.value c.waiting c.busy c.landing

-- "A result with delay L and chosen landing d (1 to L) leaves busy L-1 and landing d-1; d = 1 lands at once."
pub record Write : Type 0 where
  pub reg : ℕ
  pub result : ℕ
  pub busy : ℕ
  pub landing : ℕ

abbrev pub written_of : ℕ → ℕ → ℕ → ℕ → Cell
written_of old v b zero = record { value = v; waiting = 0; busy = b; landing = 0 }
written_of old v b (suc l) = record { value = old; waiting = v; busy = b; landing = suc l }

abbrev pub written : Write → Cell → Cell
written w c = written_of c.value w.result w.busy w.landing

abbrev pub put : Write → Registers → Registers
put w l = set l w.reg (written w (at l w.reg))

abbrev pub puts : List Write → Registers → Registers
puts [] l = l
puts (w ∷ ws) l = puts ws (put w l)

-- "takes d = 1 + (byte modulo L); past the end of the list d = L": landing is d-1
abbrev pub choose : ℕ → List ℕ → ℕ
choose L [] = L - 1
choose L (b ∷ bs) = b % L

abbrev pub others : List ℕ → List ℕ
others [] = []
others (b ∷ bs) = bs
