-- The table's rows, each rule by one comparison over all of them.
use mathlib.Core.Path.{◌≡◌, refl}
use mathlib.Core.Bool.{Bool, true, not}
use Prim.Native.Nat.{ℕ, ◌+◌, ◌^◌, ◌<◌}
use lib.Dec.{leb}
use lib.ListN.{length}
use Rattle.std.specs.Prelude.{Some}
use Rattle.lines.specs.Lines.{every}
use Rattle.expressions.specs.Skipped.{is_operator}
use Rattle.operations.specs.Table.{Item, mark, link, general, branch, either, far, source, field, table, row_at}
use Rattle.operations.specs.Reader.{row_of}
use Rattle.operations.specs.Code.{text, row_text, letters_at, until_blank, items_in, base_of, most_of}
use Rattle.operations.proofs.Finite.{agree}

pub rows : length table ≡ 58
unfolding table
rows = refl

-- no two rows have one name
pub row_of_name : (row : ℕ) → row < 58 → row_of (row_at row).name ≡ Some row
unfolding table
row_of_name = agree (λ row. row_of (row_at row).name) (λ row. Some row) 58 refl

-- no mark of an operation goes on an expression before it
abbrev pub plain : Item → Bool
plain (mark m) = not (is_operator m)
plain link = true
plain (general p) = true
plain (branch p) = true
plain either = true
plain far = true
plain source = true
plain (field f) = true

pub rows_plain : (row : ℕ) → row < 58 → every plain (row_at row).items ≡ true
unfolding table
rows_plain = agree (λ row. every plain (row_at row).items) (λ row. true) 58 refl

-- the code's table is the table

pub names : (row : ℕ) → row < 58 → (row_at row).name ≡ until_blank (row_text row)
unfolding table text
names = agree (λ row. (row_at row).name) (λ row. until_blank (row_text row)) 58 refl

pub items : (row : ℕ) → row < 58 → (row_at row).items ≡ items_in (letters_at row)
unfolding table text
items = agree (λ row. (row_at row).items) (λ row. items_in (letters_at row)) 58 refl

pub bases : (row : ℕ) → row < 58 → (row_at row).base ≡ base_of row
unfolding table
bases = agree (λ row. (row_at row).base) base_of 58 refl

-- what registers and fields add stays below bit 30
pub breadth : (row : ℕ) → row < 58 → leb (base_of row + 1 + most_of (row_at row).items) (2 ^ 30) ≡ true
unfolding table
breadth = agree (λ row. leb (base_of row + 1 + most_of (row_at row).items) (2 ^ 30)) (λ row. true) 58 refl
