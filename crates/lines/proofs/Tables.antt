-- The loop over the table's bytes: line 1 holds what was put, and what the line holds from here on.
use mathlib.Core.Path.{◌≡◌, refl, sym, ap, ◌∙◌}
use mathlib.Core.List.{List, [], ◌∷◌, ◌++◌, append_assoc}
use Prim.Native.Nat.{ℕ}
use lib.ListN.{drop}
use Rattle.std.specs.Prelude.{Option, None, Some}
use Rattle.lines.specs.Lines.{newline, pieces, Line, Broken, Holds, first_line}
use Rattle.lines.specs.Items.{item_at}
use Rattle.lines.specs.declared.items.Item.{Item}
use Rattle.lines.specs.declared.items.Item.TheVariants.{Inner, Last}
use Rattle.lines.proofs.Firsts.{◌onto◌, after, first_line_lem}

onto_append : (xs ys : List ℕ) (l : Line) → ((xs ++ ys) onto l) ≡ (xs onto (ys onto l))
onto_append xs ys Broken = refl
onto_append xs ys (Holds zs lines) = ap (λ (vs : List ℕ). Holds vs lines) (append_assoc xs ys zs)

onto_none : (l : Line) → l ≡ ([] onto l)
onto_none Broken = refl
onto_none (Holds zs lines) = refl

-- the table's bytes so far, and the text behind them
pub record Begun (text table rest : List ℕ) : Type 0 where
  pub says : first_line 2 (pieces newline text) ≡ (table onto first_line 2 (pieces newline rest))

pub begun : (text : List ℕ) → Begun text [] text
begun text = record { says = onto_none (first_line 2 (pieces newline text)) }

module _ {text table rest : List ℕ} (e : Begun text table rest) where
  found : {item : Option Item} → item_at 2 rest ≡ item → first_line 2 (pieces newline text) ≡ (table onto after 2 item (drop 3 rest))
  found {item} i = e.says ∙ ap (λ (l : Line). table onto l) (first_line_lem 2 rest) ∙ rw (sym i)

  pub begun_bad : item_at 2 rest ≡ None → first_line 2 (pieces newline text) ≡ Broken
  begun_bad i = found i

  module _ {b : ℕ} {more behind : List ℕ} (m : more ≡ table ++ (b ∷ [])) (d : behind ≡ drop 3 rest) where
    pub begun_more : item_at 2 rest ≡ Some (Inner b) → Begun text more behind
    begun_more i = rw (m, d) (record { says = found i ∙ sym (onto_append table (b ∷ []) (first_line 2 (pieces newline (drop 3 rest)))) })

    pub begun_last : item_at 2 rest ≡ Some (Last b) → first_line 2 (pieces newline text) ≡ Holds more (pieces newline behind)
    begun_last i = rw (m, d) (found i)

pub ruleset table_steps = (begun, begun_bad, begun_more, begun_last)
