-- Lines 2 and 3: one number, and the lines after it.
use mathlib.Core.Path.{◌≡◌, refl, ap, ◌∙◌}
use mathlib.Core.List.{List, [], ◌∷◌}
use Prim.Native.Nat.{ℕ}
use lib.ListN.{drop}
use Rattle.std.specs.Prelude.{Option, None, Some}
use Rattle.lines.specs.Lines.{newline, pieces, Line, Broken, Holds, first_line, from_third, from_second}
use Rattle.lines.specs.Items.{item_at, single}
use Rattle.lines.specs.declared.items.Item.{Item}
use Rattle.lines.specs.declared.items.Item.TheVariants.{Inner, Last}
use Rattle.lines.proofs.Firsts.{◌onto◌, after, first_line_lem}
use Rattle.lines.proofs.Programs.{HasItem, some}

-- two items or more
two : (v : ℕ) (l : Line) → HasItem l → single ((v ∷ []) onto l) ≡ Broken
unfolding HasItem
two v Broken s = refl
two v (Holds [] ps) s = absurd s
two v (Holds (w ∷ ws) ps) s = refl

module _ (t : List ℕ) where
  by_item : {item : Option Item} → item_at 8 t ≡ item → single (first_line 8 (pieces newline t)) ≡ single (after 8 item (drop 9 t))
  by_item e = ap single (first_line_lem 8 t ∙ ap (λ (i : Option Item). after 8 i (drop 9 t)) e)

  pub single_bad : item_at 8 t ≡ None → single (first_line 8 (pieces newline t)) ≡ Broken
  single_bad e = by_item e

  pub single_inner : {v : ℕ} → item_at 8 t ≡ Some (Inner v) → single (first_line 8 (pieces newline t)) ≡ Broken
  single_inner {v} e = by_item e ∙ two v (first_line 8 (pieces newline (drop 9 t))) (some 8 (pieces newline (drop 9 t)))

  pub single_last : {v : ℕ} {behind : List ℕ} → behind ≡ drop 9 t → item_at 8 t ≡ Some (Last v)
      → single (first_line 8 (pieces newline t)) ≡ Holds (v ∷ []) (pieces newline behind)
  single_last d e = rw d (by_item e)

-- what lines 2 and 3 say is what a line of one number says
pub second_single : (table : List ℕ) (l : Line) → from_second table l ≡ from_second table (single l)
second_single table Broken = refl
second_single table (Holds [] ps) = refl
second_single table (Holds (n ∷ []) ps) = refl
second_single table (Holds (n ∷ m ∷ more) ps) = refl

pub third_single : (table : List ℕ) (memory : ℕ) (l : Line) → from_third table memory l ≡ from_third table memory (single l)
third_single table memory Broken = refl
third_single table memory (Holds [] ps) = refl
third_single table memory (Holds (n ∷ []) ps) = refl
third_single table memory (Holds (n ∷ m ∷ more) ps) = refl

pub ruleset single_steps = (single_bad, single_inner, single_last)
