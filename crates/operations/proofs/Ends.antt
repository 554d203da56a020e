-- What stands after an item goes on no expression.
use mathlib.Core.Path.{◌≡◌, refl}
use mathlib.Core.Bool.{true, false, ◌||◌}
use mathlib.Core.List.{List, ◌∷◌, ◌++◌, append_assoc}
use Prim.Native.Nat.{ℕ}
use borrow.Author.Tests.{not-true}
use lib.Dec.{eqb}
use Rattle.word.proofs.Choice.{and_true, or_false}
use Rattle.lines.specs.Lines.{every}
use Rattle.tokens.specs.Tokens.{Token, Word, Mark}
use Rattle.expressions.specs.Grammar.{Expression, expression, term, number, label, brackets, spell_e, Ends}
use Rattle.expressions.specs.Skipped.{is_operator}
use Rattle.operations.specs.Table.{Item}
use Rattle.operations.specs.Grammar.{Operand, Front, Fits, mark_fits, link_fits, general_fits, branch_fits, general_either, branch_either, far_fits, named_fits, general_source, immediate_fits, field_fits, FitAll, no_items, more_items, spell_item, spell_items}
use Rattle.operations.proofs.Rows.{plain}

word_ends : (w : List ℕ) (ts : List Token) → Ends (Word w ∷ ts)
word_ends w ts = record { no_sign = refl; no_star = refl }

mark_ends : (m : ℕ) (ts : List Token) → is_operator m ≡ false → Ends (Mark m ∷ ts)
mark_ends m ts e =
    let s = or_false (eqb m 43 || eqb m 45) (eqb m 42) e in
    let p = or_false (eqb m 43) (eqb m 45) s.0 in
    record { no_sign = rw (p.0, p.1); no_star = rw s.1 }

expression_ends : (e : Expression) (ts : List Token) → Ends (spell_e e ++ ts)
unfolding spell_e
expression_ends (expression (term (number w) fs) x) ts = record { no_sign = refl; no_star = refl }
expression_ends (expression (term (label w) fs) x) ts = record { no_sign = refl; no_star = refl }
expression_ends (expression (term (brackets e) fs) x) ts = record { no_sign = refl; no_star = refl }

item_ends : {front : Front} {i : Item} {o : Operand} → Fits front i o → plain i ≡ true → (ts : List Token) → Ends (spell_item i o ++ ts)
item_ends (mark_fits {m}) e ts = mark_ends m ts (not-true (is_operator m) e)
item_ends link_fits e ts = word_ends _ ts
item_ends (general_fits h) e ts = word_ends _ ts
item_ends (branch_fits h) e ts = word_ends _ ts
item_ends (general_either h) e ts = word_ends _ ts
item_ends (branch_either h) e ts = word_ends _ ts
item_ends (far_fits f k h) e ts = word_ends _ ts
item_ends (named_fits f h) e ts = word_ends _ ts
item_ends (general_source h) e ts = word_ends _ ts
item_ends (immediate_fits {e} h) p ts = expression_ends e ts
item_ends (field_fits {f} {e} h) p ts = expression_ends e ts

pub items_end : {front : Front} {is : List Item} {os : List Operand} → FitAll front is os → every plain is ≡ true → {rest : List Token} → Ends rest → Ends (spell_items is os ++ rest)
items_end no_items p n = n
items_end (more_items {i} {o} {is} {os} f fs) p {rest} n =
    let t = and_true (plain i) (every plain is) p in
    rw append_assoc (item_ends f t.0 (spell_items is os ++ rest))
