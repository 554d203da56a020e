-- Lines of the output: "Line 1: number (two digits), count, place. Then, by cluster and register, each non-zero register once everything has
-- landed: cluster, register (40 to 47 hex for branch), value."
use Rattle.std.specs.Prelude.{List, [], ◌∷◌, ◌++◌, ℕ, zero, suc, ◌-◌, eqb, ltb}
use Rattle.word.specs.Choice.{pick}
use Rattle.vliw.specs.Cell.{landed}
use Rattle.isa.specs.Register.{general_at, branch}
use Rattle.machine.specs.Image.{cell_in}
use Rattle.loader.specs.declared.Answer.{Answer}
use Rattle.lines.specs.Digits.{hex}
use Rattle.lines.specs.Lines.{blank, newline}

-- so many digits, and what stands after them
abbrev pub field : ℕ → ℕ → ℕ → List ℕ
field digits v after = hex digits v ++ (after ∷ [])

-- three numbers, of two, `digits` and eight digits
unfoldable pub fields : ℕ → ℕ → ℕ → ℕ → List ℕ
fields x digits y z = field 2 x blank ++ (field digits y blank ++ field 8 z newline)

abbrev pub answer_row : Answer → List ℕ
answer_row a = fields a.number 8 a.count a.place

-- where register r of cluster c stands among all: 0 to 3F are general, 40 to 47 branch registers
abbrev pub index_of : ℕ → ℕ → ℕ
index_of c r = pick (ltb r 64) (general_at c r) (branch c (r - 64))

abbrev pub register_row : ℕ → ℕ → ℕ → List ℕ
register_row c r v = pick (eqb v 0) [] (fields c 2 r v)

-- what f makes of 0, 1, .., n of them, one after the other
unfoldable pub each : (ℕ → List ℕ) → ℕ → List ℕ
each f zero = []
each f (suc n) = each f n ++ f n

unfoldable pub cluster_rows : List ℕ → ℕ → List ℕ
cluster_rows image c = each (λ r. register_row c r (landed (cell_in image (index_of c r)))) 72

unfoldable pub register_rows : List ℕ → List ℕ
register_rows image = each (cluster_rows image) 4
