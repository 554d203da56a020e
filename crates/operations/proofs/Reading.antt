-- From a name to its row, and from the clusters in front to the name.
use mathlib.Core.Path.{◌≡◌, refl, sym, subst, ap, ap₂, ◌∙◌}
use mathlib.Core.Bool.{Bool, true, false}
use Rattle.std.specs.Prelude.{Option, Some, None}
use Rattle.std.specs.Option.{option_map}
use mathlib.Core.List.{List, [], ◌∷◌}
use Prim.Native.Nat.{ℕ, suc, ◌+◌, ◌*◌, ◌-◌, ◌^◌, ◌≤◌, ◌<◌}
use native.Mathlib.Omega.{arith}
use borrow.Author.Tests.{ne_eqb, leb-true}
use lib.ListN.{length, take, drop}
use Rattle.word.specs.Choice.{pick}
use Rattle.tokens.specs.Tokens.{Token, Word, Mark, tokens}
use Rattle.expressions.specs.Reader.{Got, bad, got, map_got}
use Rattle.expressions.proofs.Got.{map_two}
use Rattle.operations.specs.Table.{Row, table, row_at}
use Rattle.operations.specs.Meaning.{Said, said}
use Rattle.operations.specs.Reader.{row_from, row_of, read_cluster, read_name, read_items, fronted, read_after, read_moved, read_operation}
use Rattle.tokens.specs.Tokens.{same}
use Rattle.operations.specs.Parsed.{Kept}
use Rattle.operations.specs.Code.{text, letters_at, items_in, base_of, front_of, numbered_by, Onward, most_of, said_from, Gathered}
use Rattle.operations.specs.declared.Operation.{Operation}
use Rattle.operations.proofs.Spellings.{none_not_some, some_same}
use Rattle.operations.proofs.Breadths.{breadth_some}
use Rattle.operations.proofs.Rows.{rows, items, bases, breadth}

-- ---- a name

row_within : (xs : List Row) (w : List ℕ) {n : ℕ} → row_from xs w ≡ Some n → n < length xs
row_within [] w e = absurd (none_not_some e)
row_within (x ∷ xs) w {n} e = go (same x.name w) (row_from xs w) (λ k. row_within xs w {n = k}) e
  where
    go : (t : Bool) (g : Option ℕ) → ((k : ℕ) → g ≡ Some k → k < length xs) → pick t (Some 0) (option_map suc g) ≡ Some n → n < length (x ∷ xs)
    go true g more h = rw (← some_same h) (omega arith)
    go false None more h = absurd (none_not_some h)
    go false (Some k) more h = let m = more k refl in rw (← some_same h) (omega arith)

pub row_below : (w : List ℕ) {x : Option ℕ} {row : ℕ} → x ≡ row_of w → x ≡ Some row → row < 58
row_below w e f = rw rows at (row_within table w (sym e ∙ f))

module _ (cluster : ℕ) (second : Option ℕ) (w : List ℕ) (ts : List Token) {x : Option ℕ} {row : ℕ} (e : x ≡ row_of w) (n : x ≡ Some row) where
  name_known : read_name (Word w ∷ ts) ≡ got row ts
  name_known = rw (← e, n)

  known : row < 58 → fronted row second ≡ true
      → map_got (said_from cluster (base_of row) (items_in (letters_at row))) (read_items (front_of cluster second) (items_in (letters_at row)) ts) ≡ map_got said (read_after (front_of cluster second) (Word w ∷ ts))
  known h f =
      rw (name_known, f, ← items row h, ← bases row h)
      (sym (map_two said (λ os. record { front = front_of cluster second; row = row; operands = os }) (said_from cluster (row_at row).base (row_at row).items) (λ os. refl)
      (read_items (front_of cluster second) (row_at row).items ts)))

-- a row's letters, as they are lent
pub letters_part : (t : List ℕ) (row : ℕ) → t ≡ text → take (row * 16 + 7 + 9 - (row * 16 + 7)) (drop (row * 16 + 7) t) ≡ letters_at row
letters_part t row e = let n : row * 16 + 7 + 9 - (row * 16 + 7) ≡ 9 = omega arith in ap₂ (λ (k : ℕ) (s : List ℕ). take k (drop (row * 16 + 7) s)) n e

module _ (row base : ℕ) (part : List ℕ) (e : base ≡ base_of row) (f : part ≡ letters_at row) where
  pub row_rooms : row < 58 → base + 1 + most_of (items_in part) ≤ 2 ^ 30
  row_rooms h = rw (e, f, ← items row h) (leb-true (base_of row + 1 + most_of (row_at row).items) (2 ^ 30) (breadth row h))

  pub row_said : (cluster : ℕ) (second : Option ℕ) (w : List ℕ) (ts : List Token) {x : Got Said} {y : Option ℕ} → y ≡ row_of w → y ≡ Some row → row < 58 → fronted row second ≡ true
      → x ≡ map_got (said_from cluster base (items_in part)) (read_items (front_of cluster second) (items_in part) ts) → x ≡ map_got said (read_after (front_of cluster second) (Word w ∷ ts))
  row_said cluster second w ts is n h right g =
      g ∙ (ap₂ (λ (b : ℕ) (s : List ℕ). map_got (said_from cluster b (items_in s)) (read_items (front_of cluster second) (items_in s) ts)) e f ∙ known cluster second w ts is n h right)

-- ---- the clusters in front

module _ (line : List ℕ) {found : Option (ℕ × ℕ)} where
  pub cluster_not : {g : Got ℕ} → found ≡ None → numbered_by line found ≡ g → g ≡ bad
  cluster_not e f = sym f ∙ ap (numbered_by line) e

  pub cluster_at : {g : Got ℕ} {n c : ℕ} → found ≡ Some (n, c) → numbered_by line found ≡ g → g ≡ got c (tokens (drop n line))
  cluster_at e f = sym f ∙ ap (numbered_by line) e

  pub onward_at : (at : ℕ) {n c : ℕ} → found ≡ Some (n, c) → Onward line at found → (at < n) × (n ≤ length line) × (c < 4)
  onward_at at e f = subst (λ x. Onward line at x) e f

module _ (ts : List Token) where
  pub parse_none : read_cluster ts ≡ bad → bad ≡ map_got said (read_operation ts)
  unfolding read_operation
  parse_none e = rw e

  module _ {c : ℕ} {mid : List Token} (e : read_cluster ts ≡ got c mid) where
    pub parse_end : mid ≡ [] → bad ≡ map_got said (read_operation ts)
    unfolding read_operation
    parse_end f = rw (e, f)

    pub parse_word : {w : List ℕ} {rest : List Token} {x : Got Said} → mid ≡ Word w ∷ rest → x ≡ map_got said (read_after (front_of c None) (Word w ∷ rest)) → x ≡ map_got said (read_operation ts)
    unfolding read_operation
    parse_word f g = rw (e, f) g

    pub parse_moved : {m : ℕ} {rest : List Token} {x : Got Said} → mid ≡ Mark m ∷ rest → m ≡ 61 → x ≡ map_got said (read_moved c rest) → x ≡ map_got said (read_operation ts)
    unfolding read_operation
    parse_moved f h g = rw (e, f, h) g

    pub parse_mark : {m : ℕ} {rest : List Token} → mid ≡ Mark m ∷ rest → (m ≡ 61 → ⊥) → bad ≡ map_got said (read_operation ts)
    unfolding read_operation
    parse_mark {m} f h = rw (e, f, ne_eqb m 61 h)

-- ---- places

pub gathered_kept : (line : List ℕ) (at to cluster : ℕ) (found : Option (ℕ × Operation)) → suc at < to → cluster < 4 → Gathered line to cluster found → Kept line at found
gathered_kept line at to cluster None h c g = tt
gathered_kept line at to cluster (Some p) h c g =
    let k = g.0 in
    let own = g.3 in
    let breadth = g.4 in
    let some = breadth_some p.1.asks in
    (omega arith, g.1, g.2, omega arith, omega arith, g.4)
