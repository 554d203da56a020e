-- A name is looked for along the code's table.
use mathlib.Core.Path.{◌≡◌, refl, sym, ap, ap₂, ◌∙◌}
use mathlib.Core.Bool.{Bool, true, false}
use mathlib.Core.List.{List}
use Prim.Native.Nat.{ℕ, suc, ◌+◌, ◌*◌, ◌-◌, ◌≤◌, ◌<◌}
use native.Mathlib.Omega.{arith}
use lib.ListN.{length, take, drop, drop_of_length-le}
use lib.Seq.{drop-cons}
use Rattle.std.specs.Prelude.{Option, Some, None, option_map}
use Rattle.word.specs.Choice.{pick}
use Rattle.operations.specs.Table.{Row, table}
use Rattle.operations.specs.Reader.{row_from, row_of}
use Rattle.tokens.specs.Tokens.{same}
use Rattle.operations.specs.Code.{text, row_text, until_blank}
use Rattle.operations.proofs.Rows.{rows, names}

-- the rows before a place are not it
abbrev pub Passed : List ℕ → ℕ → Type 0
Passed w row = (row ≤ 58) × (row_of w ≡ option_map (λ k. row + k) (row_from (drop row table) w))

next_map : (row : ℕ) (g : Option ℕ) → option_map (λ k. row + k) (option_map suc g) ≡ option_map (λ k. row + 1 + k) g
next_map row None = refl
next_map row (Some k) = ap Some (omega arith)

module _ (w : List ℕ) where
  module _ (row : ℕ) where
    from_row : row < 58 → row_from (drop row table) w ≡ pick (same (until_blank (row_text row)) w) (Some 0) (option_map suc (row_from (drop (suc row) table) w))
    from_row h =
        let k : row < length table = rw rows h in
        ap (λ (xs : List Row). row_from xs w) (drop-cons table row _ k) ∙ ap (λ v. pick (same v w) (Some 0) (option_map suc (row_from (drop (suc row) table) w))) (names row h)

    pub row_here : row < 58 → same (until_blank (row_text row)) w ≡ true → Passed w row → Some row ≡ row_of w
    row_here h e p = let n : row + 0 ≡ row = omega arith in sym (p.1 ∙ rw (from_row h, e) (ap Some n))

    pub row_next : row < 58 → same (until_blank (row_text row)) w ≡ false → Passed w row → Passed w (row + 1)
    row_next h e p =
        let n : suc row ≡ row + 1 = omega arith in
        (omega arith, p.1 ∙ (rw (from_row h, e) (next_map row (row_from (drop (suc row) table) w)) ∙ ap (λ k. option_map (λ j. row + 1 + j) (row_from (drop k table) w)) n))

  pub row_none : (row : ℕ) → 58 ≤ row → Passed w row → None ≡ row_of w
  row_none row h p = let n : length table ≤ row = rw rows h in sym (p.1 ∙ rw (drop_of_length-le table {i = row} n))

-- a row, as it is lent
pub row_part : (t : List ℕ) (row : ℕ) → t ≡ text → take (row * 16 + 16 - row * 16) (drop (row * 16) t) ≡ row_text row
row_part t row e = let n : row * 16 + 16 - row * 16 ≡ 16 = omega arith in ap₂ (λ (k : ℕ) (s : List ℕ). take k (drop (row * 16) s)) n e

pub row_test : (t w : List ℕ) (row : ℕ) {x y : Bool} → t ≡ text → x ≡ same (until_blank (take (row * 16 + 16 - row * 16) (drop (row * 16) t))) w → x ≡ y
    → same (until_blank (row_text row)) w ≡ y
row_test t w row e f g = ap (λ s. same (until_blank s) w) (sym (row_part t row e)) ∙ (sym f ∙ g)

pub lent : (t : List ℕ) → t ≡ text → length t ≡ 928
unfolding text
lent t e = ap (λ (s : List ℕ). length s) e
