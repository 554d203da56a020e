-- What an instruction reads and writes, with its delays, and where it goes on.
use Rattle.std.specs.Prelude.{List, [], ◌∷◌, ◌++◌, map, ℕ, zero, suc, eqb, leb}
use Rattle.word.specs.Choice.{pick}
use Rattle.vliw.specs.Machine.{Dest}
use Rattle.isa.specs.Syllable.{is_alu, is_mul, is_mem}
use Rattle.isa.specs.Control.{reads_every}
use Rattle.isa.specs.declared.Op.{Op}
use Rattle.isa.specs.declared.Way.{Way}
use Rattle.isa.specs.declared.Way.TheVariants.{Along, Stop, Goto, Branch, Call, Return}
use Rattle.isa.specs.declared.Nexts.{Nexts}
use Rattle.isa.specs.declared.Nexts.TheVariants.{Nowhere, One, Two}
use Rattle.isa.specs.declared.Delays.{Delays}

-- "Delays go by class, but every branch register result has delay CMPB."
abbrev pub delay_of : Delays → ℕ → ℕ → ℕ
delay_of d opcode register =
    pick (leb 256 register) d.cmpb
    (pick (is_alu opcode) d.alu (pick (is_mul opcode) d.mul (pick (is_mem opcode) d.load d.copy)))

-- registers r, r + 1, .., n of them
abbrev pub registers_from : ℕ → ℕ → List ℕ
registers_from r zero = []
registers_from r (suc n) = r ∷ registers_from (suc r) n

-- "the 256 general and 32 branch registers for every C"
unfoldable pub every_register : List ℕ
every_register = registers_from 0 288

-- the registers read; number 0 where there is none, which is never in flight
abbrev pub reads_of : Op → List ℕ
reads_of o = o.s1 ∷ o.s2 ∷ o.b ∷ o.stored ∷ pick (reads_every o.way) every_register []

abbrev pub reads : List Op → List ℕ
reads [] = []
reads (o ∷ os) = reads_of o ++ reads os

-- a result: its register and the opcode that makes it; a destination in register 0 is none
pub record Result : Type 0 where
  pub register : ℕ
  pub opcode : ℕ

abbrev pub result_in : ℕ → ℕ → List Result → List Result
result_in register opcode more = pick (eqb register 0) more (record { register = register; opcode = opcode } ∷ more)

-- by syllable, addcg's general one before its branch one
abbrev pub results : List Op → List Result
results [] = []
results (o ∷ os) = let more = results os in result_in o.t o.opcode (result_in o.carry o.opcode more)

abbrev pub destinations : List Op → List ℕ
destinations os = map (λ (r : Result). r.register) (results os)

abbrev pub dests : Delays → List Op → List Dest
dests d os = map (λ (r : Result). record { reg = r.register; delay = delay_of d r.opcode r.register }) (results os)

-- "goto, its target; br and brf, target and following; stop, none; others, the following one"; "The next of a call is its target; return has
-- no nexts."
abbrev pub nexts_by : Way → ℕ → List ℕ → List ℕ
nexts_by Along following others = others
nexts_by Stop following others = []
nexts_by (Goto target) following others = target.0 ∷ []
nexts_by (Branch wanted target) following others = target.0 ∷ following ∷ []
nexts_by (Call target) following others = target.0 ∷ []
nexts_by Return following others = []

abbrev pub nexts : ℕ → List Op → List ℕ
nexts following [] = following ∷ []
nexts following (o ∷ os) = nexts_by o.way following (nexts following os)

-- the nexts, as the code gives them
abbrev pub listed : Nexts → List ℕ
listed Nowhere = []
listed (One i) = i.0 ∷ []
listed (Two i j) = i.0 ∷ j.0 ∷ []
