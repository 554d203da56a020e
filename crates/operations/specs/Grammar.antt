-- The grammar of operations, written down without a reader: trees, and how a tree is spelt.
use Rattle.std.specs.Prelude.{◌≡◌, List, [], ◌∷◌, ◌++◌, ℕ, ◌+◌, ◌/◌, ◌%◌, ◌<◌, ltb, length, Option, Some, None}
use Rattle.word.specs.Choice.{pick}
use Rattle.tokens.specs.Tokens.{Token, Word, Mark, letters}
use Rattle.expressions.specs.Grammar.{Expression, spell_e, FitsE}
use Rattle.operations.specs.Table.{Field, Item, mark, link, general, branch, either, far, source, field, table, row_at, moves}

-- "c0" to "c3"
abbrev pub cluster_word : ℕ → List ℕ
cluster_word c = 99 ∷ (48 + c) ∷ []

-- "their numbers decimal without a needless 0"
abbrev pub number_word : ℕ → List ℕ
number_word n = pick (ltb n 10) ((48 + n) ∷ []) ((48 + n / 10) ∷ (48 + n % 10) ∷ [])

-- the letters of general and of branch registers
abbrev pub r : ℕ
r = 114

abbrev pub b : ℕ
b = 98

-- "`$r0.0` to `$r3.63` and `$b0.0` to `$b3.7`"
abbrev pub register_word : ℕ → ℕ → ℕ → List ℕ
register_word letter cluster number = 36 ∷ letter ∷ (48 + cluster) ∷ 46 ∷ number_word number

-- what an item of an operation is, where that is not fixed
pub data Operand : Type 0 where
  nothing : Operand
  -- letter, cluster, number
  register : ℕ → ℕ → ℕ → Operand
  value : Expression → Operand

-- the cluster that an operation is written with, and the second one of "c1=c0"
pub record Front : Type 0 where
  pub cluster : ℕ
  pub from : Option ℕ

-- "the general and branch registers it names are of that cluster, but for copy's source", which "with `mov` [is] the one after the `=` in front"
pub data Fits (front : Front) : Item → Operand → Type 0 where
  mark_fits : {m : ℕ} → Fits front (mark m) nothing
  link_fits : Fits front link nothing
  general_fits : {p n : ℕ} → n < 64 → Fits front (general p) (register r front.cluster n)
  branch_fits : {p n : ℕ} → n < 8 → Fits front (branch p) (register b front.cluster n)
  general_either : {n : ℕ} → n < 64 → Fits front either (register r front.cluster n)
  branch_either : {n : ℕ} → n < 8 → Fits front either (register b front.cluster n)
  far_fits : {c n : ℕ} → front.from ≡ None → c < 4 → n < 64 → Fits front far (register r c n)
  named_fits : {c n : ℕ} → front.from ≡ Some c → n < 64 → Fits front far (register r c n)
  general_source : {n : ℕ} → n < 64 → Fits front source (register r front.cluster n)
  immediate_fits : {e : Expression} → FitsE e 16 → Fits front source (value e)
  field_fits : {f : Field} {e : Expression} → FitsE e 16 → Fits front (field f) (value e)

pub data FitAll (front : Front) : List Item → List Operand → Type 0 where
  no_items : FitAll front [] []
  more_items : {i : Item} {o : Operand} {is : List Item} {os : List Operand} → Fits front i o → FitAll front is os → FitAll front (i ∷ is) (o ∷ os)

pub record Operation : Type 0 where
  pub front : Front
  -- the name's row of the table
  pub row : ℕ
  pub operands : List Operand

-- a second cluster stands in front of mov, and of nothing else
abbrev pub FrontFits : ℕ → Option ℕ → Type 0
FrontFits row None = row ≡ moves → ⊥
FrontFits row (Some c) = (row ≡ moves) × (c < 4)

pub record FitsOperation (o : Operation) : Type 0 where
  pub cluster : o.front.cluster < 4
  pub named : o.row < length table
  pub from : FrontFits o.row o.front.from
  pub operands : FitAll o.front (row_at o.row).items o.operands

abbrev pub spell_from : Option ℕ → List Token
spell_from None = []
spell_from (Some c) = Mark 61 ∷ Word (cluster_word c) ∷ []

abbrev pub spell_operand : Operand → List Token
spell_operand nothing = []
spell_operand (register letter c n) = Word (register_word letter c n) ∷ []
spell_operand (value e) = spell_e e

abbrev pub spell_item : Item → Operand → List Token
spell_item (mark m) o = Mark m ∷ []
spell_item link o = Word (letters "$l0.0") ∷ []
spell_item (general p) o = spell_operand o
spell_item (branch p) o = spell_operand o
spell_item either o = spell_operand o
spell_item far o = spell_operand o
spell_item source o = spell_operand o
spell_item (field f) o = spell_operand o

abbrev pub spell_items : List Item → List Operand → List Token
spell_items [] os = []
spell_items (i ∷ is) [] = []
spell_items (i ∷ is) (o ∷ os) = spell_item i o ++ spell_items is os

-- "cluster, operation, destinations, `=`, sources", as the name's row has them
abbrev pub spell_operation : Operation → List Token
spell_operation o =
    Word (cluster_word o.front.cluster) ∷ spell_from o.front.from ++ Word (row_at o.row).name ∷ spell_items (row_at o.row).items o.operands
