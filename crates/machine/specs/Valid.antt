-- "A state is valid if its place starts an instruction; register 0 is all zero; landing <= busy <= 7; waiting is 0 where landing is 0;
-- branch values, waiting ones too, are 0 or 1." "This covers the 256 general and 32 branch registers for every C."
use Rattle.std.specs.Prelude.{Bool, not, ◌||◌, ◌&&◌, List, ℕ, ◌%◌, eqb, ltb, leb}
use Rattle.word.specs.Lists.{any_below}
use Rattle.vliw.specs.Cell.{Cell, Registers, at}
use Rattle.isa.specs.Program.{is_start}
use Rattle.machine.specs.Image.{place_in, registers_in}

abbrev pub is_zero_register : ℕ → Bool
is_zero_register r = ltb r 256 && eqb (r % 64) 0

abbrev pub all_zero : Cell → Bool
all_zero c = eqb c.value 0 && eqb c.waiting 0 && eqb c.busy 0 && eqb c.landing 0

abbrev pub bad_register : ℕ → Cell → Bool
bad_register r c =
    (is_zero_register r && not (all_zero c))
    || ltb c.busy c.landing
    || ltb 7 c.busy
    || (eqb c.landing 0 && not (eqb c.waiting 0))
    || (leb 256 r && (ltb 1 c.value || ltb 1 c.waiting))

abbrev pub bad_state_with : List ℕ → ℕ → Registers → Bool
bad_state_with program place registers = not (is_start program place) || any_below (λ r. bad_register r (at registers r)) 288

unfoldable pub bad_state : List ℕ → List ℕ → Bool
bad_state program image = bad_state_with program (place_in image) (registers_in image)
