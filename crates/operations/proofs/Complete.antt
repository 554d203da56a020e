-- What the grammar derives is what the reader of tokens finds. So a line has one reading.
use mathlib.Core.Path.{◌≡◌, refl, sym, ap, ◌∙◌}
use mathlib.Core.Bool.{Bool, true, false}
use mathlib.Core.List.{List, [], ◌∷◌, ◌++◌, append_assoc}
use Rattle.std.specs.Prelude.{Option, Some, None}
use Prim.Native.Nat.{ℕ, ◌<◌}
use native.Mathlib.Omega.{arith}
use borrow.Author.Tests.{eq-eqb, ne_eqb}
use lib.Dec.{eqb}
use lib.ListN.{length}
use Rattle.word.proofs.Choice.{and_true}
use Rattle.lines.specs.Lines.{every}
use Rattle.tokens.specs.Tokens.{Token, Word, is_decimal, is_letter}
use Rattle.tokens.proofs.Bytes.{apart}
use Rattle.expressions.specs.Grammar.{Expression, expression, term, number, label, brackets, spell_e, FitsE, is_number, is_label, Ends}
use Rattle.expressions.specs.Reader.{got, map_got}
use Rattle.expressions.proofs.Got.{got_same, then_is}
use Rattle.expressions.proofs.Complete.{read_complete}
use Rattle.operations.specs.Table.{Item, table, row_at, moves}
use Rattle.operations.specs.Grammar.{r, b, cluster_word, register_word, Operand, register, value, Front, Fits, mark_fits, link_fits, general_fits, branch_fits, general_either, branch_either, far_fits, named_fits, general_source, immediate_fits, field_fits, FitAll, no_items, more_items, Operation, FrontFits, FitsOperation, spell_from, spell_item, spell_items, spell_operation}
use Rattle.operations.specs.Reader.{limit, register_in, read_cluster, read_name, read_register, own, own_either, of_any, read_value, read_source, read_item, read_items, read_from, fronted, read_named, read_after, read_operation}
use Rattle.operations.specs.Promise.{Stands}
use Rattle.operations.proofs.Spellings.{cluster_complete, register_complete}
use Rattle.operations.proofs.Rows.{rows, row_of_name, plain, rows_plain}
use Rattle.operations.proofs.Ends.{items_end}

-- an expression's first word is no register
not_register : (a : ℕ) (w : List ℕ) → eqb a 36 ≡ false → register_in (a ∷ w) ≡ None
not_register a [] e = refl
not_register a (m ∷ []) e = refl
not_register a (m ∷ c ∷ []) e = refl
not_register a (m ∷ c ∷ p ∷ w) e = rw e

number_no_register : (w : List ℕ) → is_number w ≡ true → register_in w ≡ None
number_no_register [] h = refl
number_no_register (a ∷ w) h = not_register a w (apart is_decimal 36 a refl (and_true (is_decimal a) (every is_decimal w) h).0)

label_no_register : (w : List ℕ) → is_label w ≡ true → register_in w ≡ None
label_no_register [] h = refl
label_no_register (a ∷ w) h = not_register a w (apart is_letter 36 a refl h)

begins_value : (cluster : ℕ) (e : Expression) (rest : List Token) → FitsE e 16 → read_source cluster (spell_e e ++ rest) ≡ read_value (spell_e e ++ rest)
unfolding spell_e FitsE
begins_value cluster (expression (term (number w) fs) x) rest h = rw (number_no_register w h.0.0)
begins_value cluster (expression (term (label w) fs) x) rest h = rw (label_no_register w h.0.0)
begins_value cluster (expression (term (brackets e) fs) x) rest h = refl

value_complete : (e : Expression) (rest : List Token) → FitsE e 16 → Ends rest → read_value (spell_e e ++ rest) ≡ got (value e) rest
value_complete e rest h n = ap (map_got value) (read_complete 16 (spell_e e ++ rest) rest e (record { fits = h; spelt = refl; ends = n }))

register_found : (fits : ℕ → ℕ → Bool) (operand : ℕ → ℕ → ℕ → Operand) (letter c n : ℕ) (rest : List Token) → c < 4 → n < limit letter → fits letter c ≡ true
    → read_register fits operand (Word (register_word letter c n) ∷ rest) ≡ got (operand letter c n) rest
register_found fits operand letter c n rest k h e = rw (register_complete letter c n k h, e)

own_is : (letter c : ℕ) → own letter c letter c ≡ true
own_is letter c = rw (eq-eqb letter letter refl, eq-eqb c c refl)

module _ (front : Front) (own_cluster : front.cluster < 4) (from_cluster : (k : ℕ) → front.from ≡ Some k → k < 4) where
  item_complete : {i : Item} {o : Operand} → Fits front i o → (rest : List Token) → Ends rest → read_item front i (spell_item i o ++ rest) ≡ got o rest
  item_complete (mark_fits {m}) rest ends = rw (eq-eqb m m refl)
  item_complete link_fits rest ends = refl
  item_complete (general_fits {p} {n} h) rest ends = register_found (own r front.cluster) register r front.cluster n rest own_cluster h (own_is r front.cluster)
  item_complete (branch_fits {p} {n} h) rest ends = register_found (own b front.cluster) register b front.cluster n rest own_cluster h (own_is b front.cluster)
  item_complete (general_either {n} h) rest ends =
      register_found (own_either front.cluster) register r front.cluster n rest own_cluster h (eq-eqb front.cluster front.cluster refl)
  item_complete (branch_either {n} h) rest ends =
      register_found (own_either front.cluster) register b front.cluster n rest own_cluster h (eq-eqb front.cluster front.cluster refl)
  item_complete (far_fits {c} {n} f k h) rest ends = register_found (of_any front.from) register r c n rest k h (rw f)
  item_complete (named_fits {c} {n} f h) rest ends = register_found (of_any front.from) register r c n rest (from_cluster c f) h (rw (f, eq-eqb c c refl))
  item_complete (general_source {n} h) rest ends = rw (register_complete r front.cluster n own_cluster h, eq-eqb front.cluster front.cluster refl)
  item_complete (immediate_fits {e} h) rest ends = begins_value front.cluster e rest h ∙ value_complete e rest h ends
  item_complete (field_fits {f} {e} h) rest ends = value_complete e rest h ends

  items_complete : {is : List Item} {os : List Operand} → FitAll front is os → every plain is ≡ true → (rest : List Token) → Ends rest → read_items front is (spell_items is os ++ rest) ≡ got os rest
  items_complete no_items p rest n = refl
  items_complete (more_items {i} {o} {is} {os} f fs) p rest n =
      let t = and_true (plain i) (every plain is) p in
      ap (read_items front (i ∷ is)) (append_assoc (spell_item i o) (spell_items is os) rest)
      ∙ then_is (λ x s. map_got (λ xs. x ∷ xs) (read_items front is s)) (item_complete f (spell_items is os ++ rest) (items_end fs t.1 n))
      (ap (map_got (λ xs. o ∷ xs)) (items_complete fs t.1 rest n))

cluster_found : (c : ℕ) (rest : List Token) → c < 4 → read_cluster (Word (cluster_word c) ∷ rest) ≡ got c rest
cluster_found c rest h = rw (cluster_complete c h)

name_found : (row : ℕ) (rest : List Token) → row < length table → read_name (Word (row_at row).name ∷ rest) ≡ got row rest
name_found row rest h = rw (row_of_name row (rw rows at h))

from_found : (c : ℕ) (from : Option ℕ) (row : ℕ) (w : List ℕ) (rest : List Token) → FrontFits row from
    → read_from c (spell_from from ++ Word w ∷ rest) ≡ got (record { cluster = c; from = from }) (Word w ∷ rest)
from_found c None row w rest h = refl
from_found c (Some k) row w rest h = ap (map_got (λ j. record { cluster = c; from = Some j })) (cluster_found k (Word w ∷ rest) h.1)

from_below : (row : ℕ) (from : Option ℕ) → FrontFits row from → (k : ℕ) → from ≡ Some k → k < 4
from_below row None h k e = absurd (let z : ◌≡◌ {A = ℕ} 0 1 = cc in omega arith)
from_below row (Some j) h k e = let s : j ≡ k = cc in rw (← s) h.1

front_right : (row : ℕ) (from : Option ℕ) → FrontFits row from → fronted row from ≡ true
front_right row None h = rw (ne_eqb row moves h)
front_right row (Some k) h = eq-eqb row moves h.0

operation_found : (o : Operation) (rest : List Token) → FitsOperation o → Ends rest → read_operation (spell_operation o ++ rest) ≡ got o rest
unfolding read_operation
operation_found o rest f n =
    let front = o.front in
    let row = o.row in
    let spelt = spell_items (row_at row).items o.operands in
    let place : row < 58 = rw rows at f.named in
    let name = (row_at row).name in
    ap (λ s. read_operation (Word (cluster_word front.cluster) ∷ s)) (append_assoc (spell_from front.from) (Word name ∷ spelt) rest)
    ∙ then_is read_after
    (then_is read_from (cluster_found front.cluster _ f.cluster) (from_found front.cluster front.from row name (spelt ++ rest) f.from))
    (then_is (read_named front) (name_found row (spelt ++ rest) f.named)
    (rw (front_right row front.from f.from, items_complete front f.cluster (from_below row front.from f.from) f.operands (rows_plain row place) rest n)))

pub operation_complete : (ts rest : List Token) (o : Operation) → Stands ts o rest → read_operation ts ≡ got o rest
operation_complete ts rest o s = ap read_operation s.spelt ∙ operation_found o rest s.fits s.ends

-- the reading is unique
pub unique : (ts : List Token) (o p : Operation) (r s : List Token) → Stands ts o r → Stands ts p s → (o ≡ p) × (r ≡ s)
unique ts o p r s f g = got_same (sym (operation_complete ts r o f) ∙ operation_complete ts s p g)
