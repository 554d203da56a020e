-- A reader of tokens, as a function. Nobody has to believe it: Promise says that it finds what the grammar derives, and nothing else.
use Rattle.std.specs.Prelude.{Bool, true, not, ◌&&◌, ◌||◌, List, [], ◌∷◌, ℕ, suc, ◌+◌, ◌*◌, ◌-◌, eqb, ltb, Option, Some, None, option_map}
use Rattle.word.specs.Choice.{pick}
use Rattle.tokens.specs.Tokens.{Token, Word, Mark, between, is_decimal, same}
use Rattle.expressions.specs.Reader.{Got, bad, got, and_then, map_got, read_e}
use Rattle.operations.specs.Table.{Row, Item, mark, link, general, branch, either, far, source, field, table, row_at, moves}
use Rattle.operations.specs.Grammar.{r, b, Operand, nothing, register, value, Front, Operation}
use Rattle.operations.specs.declared.Register.{Register}

abbrev pub cluster_in : List ℕ → Option ℕ
cluster_in [] = None
cluster_in (a ∷ []) = None
cluster_in (a ∷ d ∷ []) = pick (eqb a 99 && between 48 51 d) (Some (d - 48)) None
cluster_in (a ∷ d ∷ e ∷ w) = None

-- one or two digits without a needless 0
abbrev pub number_in : List ℕ → Option ℕ
number_in [] = None
number_in (d ∷ []) = pick (is_decimal d) (Some (d - 48)) None
number_in (d ∷ e ∷ []) = pick (between 49 57 d && is_decimal e) (Some ((d - 48) * 10 + (e - 48))) None
number_in (d ∷ e ∷ f ∷ w) = None

abbrev pub l : ℕ
l = 108

-- how many registers of a letter a cluster has; the link is read as one of them
abbrev pub limit : ℕ → ℕ
limit letter = pick (eqb letter r) 64 (pick (eqb letter b) 8 (pick (eqb letter l) 1 0))

abbrev pub register_of : ℕ → ℕ → Option ℕ → Option Register
register_of letter cluster None = None
register_of letter cluster (Some n) = pick (ltb n (limit letter)) (Some (record { letter = letter; cluster = cluster; number = n })) None

abbrev pub register_in : List ℕ → Option Register
register_in [] = None
register_in (a ∷ []) = None
register_in (a ∷ letter ∷ []) = None
register_in (a ∷ letter ∷ c ∷ []) = None
register_in (a ∷ letter ∷ c ∷ p ∷ w) = pick (eqb a 36 && eqb p 46 && between 48 51 c) (register_of letter (c - 48) (number_in w)) None

-- the first row with a name
abbrev pub row_from : List Row → List ℕ → Option ℕ
row_from [] w = None
row_from (x ∷ xs) w = pick (same x.name w) (Some 0) (option_map suc (row_from xs w))

abbrev pub row_of : List ℕ → Option ℕ
row_of = row_from table

abbrev pub first_word : {A : Type 0} → (List ℕ → List Token → Got A) → List Token → Got A
first_word f [] = bad
first_word f (Word w ∷ ts) = f w ts
first_word f (Mark m ∷ ts) = bad

abbrev pub got_some : {A : Type 0} → Option A → List Token → Got A
got_some None ts = bad
got_some (Some a) ts = got a ts

-- what a word is read as, if anything
abbrev pub read_word : {A : Type 0} → (List ℕ → Option A) → List Token → Got A
read_word f = first_word (λ w ts. got_some (f w) ts)

abbrev pub read_cluster : List Token → Got ℕ
read_cluster = read_word cluster_in

abbrev pub read_name : List Token → Got ℕ
read_name = read_word row_of

-- what a register's word is read as, by a test of its letter and cluster
abbrev pub kept : (ℕ → ℕ → Bool) → (ℕ → ℕ → ℕ → Operand) → Option Register → List Token → Got Operand
kept fits operand None ts = bad
kept fits operand (Some x) ts = pick (fits x.letter x.cluster) (got (operand x.letter x.cluster x.number) ts) bad

abbrev pub first_register : List Token → Option Register
first_register [] = None
first_register (Word w ∷ ts) = register_in w
first_register (Mark m ∷ ts) = None

abbrev pub after : List Token → List Token
after [] = []
after (t ∷ ts) = ts

abbrev pub read_register : (ℕ → ℕ → Bool) → (ℕ → ℕ → ℕ → Operand) → List Token → Got Operand
read_register fits operand ts = kept fits operand (first_register ts) (after ts)

abbrev pub own : ℕ → ℕ → ℕ → ℕ → Bool
own letter cluster m c = eqb m letter && eqb c cluster

abbrev pub own_either : ℕ → ℕ → ℕ → Bool
own_either cluster m c = (eqb m r || eqb m b) && eqb c cluster

abbrev pub allowed : Option ℕ → ℕ → Bool
allowed None c = true
allowed (Some k) c = eqb c k

abbrev pub of_any : Option ℕ → ℕ → ℕ → Bool
of_any from m c = eqb m r && allowed from c

abbrev pub is_link : ℕ → ℕ → Bool
is_link m c = eqb m l && eqb c 0

abbrev pub read_mark : ℕ → List Token → Got Operand
read_mark m [] = bad
read_mark m (Word w ∷ ts) = bad
read_mark m (Mark k ∷ ts) = pick (eqb k m) (got nothing ts) bad

abbrev pub read_value : List Token → Got Operand
read_value ts = map_got value (read_e 16 ts)

-- a register's word is a register, and anything else begins an expression
abbrev pub source_by : ℕ → Option Register → List Token → Got Operand
source_by cluster None ts = read_value ts
source_by cluster (Some x) ts = kept (own r cluster) register (Some x) (after ts)

abbrev pub read_source : ℕ → List Token → Got Operand
read_source cluster ts = source_by cluster (first_register ts) ts

abbrev pub read_item : Front → Item → List Token → Got Operand
read_item front (mark m) = read_mark m
read_item front link = read_register is_link (λ m c n. nothing)
read_item front (general p) = read_register (own r front.cluster) register
read_item front (branch p) = read_register (own b front.cluster) register
read_item front either = read_register (own_either front.cluster) register
read_item front far = read_register (of_any front.from) register
read_item front source = read_source front.cluster
read_item front (field f) = read_value

abbrev pub read_items : Front → List Item → List Token → Got (List Operand)
read_items front [] ts = got [] ts
read_items front (i ∷ is) ts = and_then (read_item front i ts) (λ o rest. map_got (λ os. o ∷ os) (read_items front is rest))

-- the second cluster of "c1=c0"
abbrev pub read_second : ℕ → List Token → Got Front
read_second c ts = map_got (λ k. record { cluster = c; from = Some k }) (read_cluster ts)

abbrev pub read_from : ℕ → List Token → Got Front
read_from c [] = bad
read_from c (Word w ∷ ts) = got (record { cluster = c; from = None }) (Word w ∷ ts)
read_from c (Mark m ∷ ts) = pick (eqb m 61) (read_second c ts) bad

abbrev pub read_front : List Token → Got Front
read_front ts = and_then (read_cluster ts) read_from

abbrev pub fronted : ℕ → Option ℕ → Bool
fronted row None = not (eqb row moves)
fronted row (Some c) = eqb row moves

abbrev pub read_named : Front → ℕ → List Token → Got Operation
read_named front row ts =
    pick (fronted row front.from) (map_got (λ os. record { front = front; row = row; operands = os }) (read_items front (row_at row).items ts)) bad

abbrev pub read_after : Front → List Token → Got Operation
read_after front ts = and_then (read_name ts) (read_named front)

-- what stands after "c1="
abbrev pub read_moved : ℕ → List Token → Got Operation
read_moved c ts = and_then (read_second c ts) read_after

unfoldable pub read_operation : List Token → Got Operation
read_operation ts = and_then (read_front ts) read_after
