-- Private to the search, nobody has to believe it: the registers that an operation names, and the stamps on them.
use Rattle.std.specs.Prelude.{◌≡◌, Bool, ◌||◌, ◌&&◌, List, ℕ, ◌<◌, eqb, ltb, length, get_or}
use Rattle.word.specs.Choice.{pick}
use Rattle.isa.specs.Control.{reads_every}
use Rattle.isa.specs.declared.Op.{Op}

-- an operation reads or writes a register
abbrev pub names : ℕ → Op → Bool
names r o =
    (reads_every o.way && ltb r 288)
    || eqb r o.s1 || eqb r o.s2 || eqb r o.b || eqb r o.stored || eqb r o.t || eqb r o.carry

pub record Registers (o : Op) : Type 0 where
  pub s1 : o.s1 < 288
  pub s2 : o.s2 < 288
  pub b : o.b < 288
  pub stored : o.stored < 288
  pub t : o.t < 288
  pub carry : o.carry < 288

-- those that pass a test have the stamp n, the others what they had
pub record Stamped (test : ℕ → Bool) (n : ℕ) (old new : List ℕ) : Type 0 where
  pub size : length new ≡ 288
  pub each : (r : ℕ) → get_or new r 0 ≡ pick (test r) n (get_or old r 0)
