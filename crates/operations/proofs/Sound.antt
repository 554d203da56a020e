-- What the reader of tokens finds is what the grammar derives.
use mathlib.Core.Path.{◌≡◌, refl, sym, subst, ap, ap₂, ◌∙◌}
use mathlib.Core.Bool.{Bool, true, false, ◌||◌}
use mathlib.Core.List.{List, [], ◌∷◌, ◌++◌, append_assoc}
use mathlib.Core.Logic.{⊎_elim}
use Rattle.std.specs.Prelude.{Option, Some, None}
use Rattle.std.specs.Option.{option_map}
use Prim.Native.Nat.{ℕ, suc, ◌<◌}
use native.Mathlib.Omega.{arith}
use borrow.Author.Tests.{eqb-true, eqb-false, not-true}
use lib.Dec.{eqb}
use lib.ListN.{length, get_or}
use Rattle.word.specs.Choice.{pick}
use Rattle.word.proofs.Choice.{and_true, or_true}
use Rattle.tokens.specs.Tokens.{Token, Word, Mark}
use Rattle.expressions.specs.Grammar.{Expression, spell_e, FitsE}
use Rattle.expressions.specs.Reader.{Got, bad, got, read_e}
use Rattle.expressions.proofs.Got.{bad_not_got, got_same, then_got, map_got_lem}
use Rattle.expressions.proofs.Sound.{read_sound}
use Rattle.operations.specs.Table.{Row, Item, mark, link, general, branch, either, far, source, field, table, row_at, moves}
use Rattle.operations.specs.Grammar.{r, b, cluster_word, register_word, Operand, nothing, register, value, Front, Fits, mark_fits, link_fits, general_fits, branch_fits, general_either, branch_either, far_fits, named_fits, general_source, immediate_fits, field_fits, FitAll, no_items, more_items, Operation, FrontFits, FitsOperation, spell_from, spell_item, spell_items, spell_operation}
use Rattle.operations.specs.Reader.{l, limit, cluster_in, register_in, row_from, row_of, first_word, got_some, read_word, read_cluster, read_name, kept, read_register, own, own_either, allowed, of_any, is_link, read_mark, read_value, source_by, read_source, read_item, read_items, read_from, read_front, fronted, read_operation}
use Rattle.tokens.specs.Tokens.{same}
use Rattle.operations.specs.declared.Register.{Register}
use Rattle.operations.proofs.Spellings.{none_not_some, some_same, cluster_sound, register_sound}
use Rattle.tokens.proofs.Same.{same_true}

picked : {A : Type 0} (x : Bool) {g : Got A} {a : A} {rest : List Token} → pick x g bad ≡ got a rest → (x ≡ true) × (g ≡ got a rest)
picked true e = (refl, e)
picked false e = absurd (bad_not_got e)

word_got : {A : Type 0} (f : List ℕ → List Token → Got A) (ts : List Token) {a : A} {rest : List Token} → first_word f ts ≡ got a rest
    → (w : List ℕ) × (mid : List Token) × (ts ≡ Word w ∷ mid) × (f w mid ≡ got a rest)
word_got f [] e = absurd (bad_not_got e)
word_got f (Word w ∷ ts) e = (w, ts, refl, e)
word_got f (Mark m ∷ ts) e = absurd (bad_not_got e)

some_read : {A : Type 0} (x : Option A) (ts : List Token) {a : A} {rest : List Token} → got_some x ts ≡ got a rest → (x ≡ Some a) × (ts ≡ rest)
some_read None ts e = absurd (bad_not_got e)
some_read (Some x) ts e = let g = got_same e in (ap Some g.0, g.1)

word_read : {A : Type 0} (f : List ℕ → Option A) (ts : List Token) {a : A} {rest : List Token} → read_word f ts ≡ got a rest
    → (w : List ℕ) × (ts ≡ Word w ∷ rest) × (f w ≡ Some a)
word_read f ts e =
    let g = word_got _ ts e in
    let p = some_read (f g.0) g.1 g.3 in
    (g.0, g.2 ∙ ap (λ s. Word g.0 ∷ s) p.1, p.0)

cluster_read : (ts : List Token) {c : ℕ} {rest : List Token} → read_cluster ts ≡ got c rest → (ts ≡ Word (cluster_word c) ∷ rest) × (c < 4)
cluster_read ts {c} {rest} e =
    let g = word_read cluster_in ts e in
    let s = cluster_sound g.0 g.2 in
    (g.1 ∙ ap (λ w. Word w ∷ rest) s.0, s.1)

row_found : (xs : List Row) (w : List ℕ) (d : Row) {n : ℕ} → row_from xs w ≡ Some n → ((get_or xs n d).name ≡ w) × (n < length xs)
row_found [] w d e = absurd (none_not_some e)
row_found (x ∷ xs) w d {n} e = go (same x.name w) (row_from xs w) refl e (λ k. row_found xs w d {n = k})
  where
    go : (t : Bool) (g : Option ℕ) → same x.name w ≡ t → pick t (Some 0) (option_map suc g) ≡ Some n
        → ((k : ℕ) → g ≡ Some k → ((get_or xs k d).name ≡ w) × (k < length xs)) → ((get_or (x ∷ xs) n d).name ≡ w) × (n < length (x ∷ xs))
    go true g e h more = rw (← some_same h) (same_true x.name w e, omega arith)
    go false None e h more = absurd (none_not_some h)
    go false (Some k) e h more = let m = more k refl in rw (← some_same h) (m.0, omega arith)

name_read : (ts : List Token) {row : ℕ} {rest : List Token} → read_name ts ≡ got row rest → (ts ≡ Word (row_at row).name ∷ rest) × (row < length table)
name_read ts {row} {rest} e =
    let g = word_read row_of ts e in
    let s = row_found table g.0 _ g.2 in
    (g.1 ∙ ap (λ w. Word w ∷ rest) (sym s.0), s.1)

-- what a register's word was read as
record Named (fits : ℕ → ℕ → Bool) (operand : ℕ → ℕ → ℕ → Operand) (ts : List Token) (o : Operand) (rest : List Token) : Type 0 where
  letter : ℕ
  c : ℕ
  n : ℕ
  fitting : fits letter c ≡ true
  is : operand letter c n ≡ o
  spelt : ts ≡ Word (register_word letter c n) ∷ rest
  cluster : c < 4
  number : n < limit letter

kept_read : (fits : ℕ → ℕ → Bool) (operand : ℕ → ℕ → ℕ → Operand) (w : List ℕ) (x : Option Register) (ts : List Token) {o : Operand} {rest : List Token}
    → register_in w ≡ x → kept fits operand x ts ≡ got o rest → Named fits operand (Word w ∷ ts) o rest
kept_read fits operand w None ts h e = absurd (bad_not_got e)
kept_read fits operand w (Some x) ts h e =
    let p = picked (fits x.letter x.cluster) e in
    let g = got_same p.1 in
    let s = register_sound w h in
    record {
      letter = x.letter;
      c = x.cluster;
      n = x.number;
      fitting = p.0;
      is = g.0;
      spelt = ap₂ (λ (v : List ℕ) (u : List Token). Word v ∷ u) s.spelt g.1;
      cluster = s.cluster;
      number = s.number;
    }

register_read : (fits : ℕ → ℕ → Bool) (operand : ℕ → ℕ → ℕ → Operand) (ts : List Token) {o : Operand} {rest : List Token}
    → read_register fits operand ts ≡ got o rest → Named fits operand ts o rest
register_read fits operand [] e = absurd (bad_not_got e)
register_read fits operand (Word w ∷ ts) e = kept_read fits operand w (register_in w) ts refl e
register_read fits operand (Mark m ∷ ts) e = absurd (bad_not_got e)

abbrev Sound : Front → Item → List Token → Operand → List Token → Type 0
Sound front i ts o rest = Fits front i o × (ts ≡ spell_item i o ++ rest)

own_true : (letter cluster m c : ℕ) → own letter cluster m c ≡ true → (m ≡ letter) × (c ≡ cluster)
own_true letter cluster m c e = let t = and_true (eqb m letter) (eqb c cluster) e in (eqb-true m letter t.0, eqb-true c cluster t.1)

module _ (front : Front) where
  own_fits : (P : Operand → Type 0) (want : ℕ) → ((n : ℕ) → n < limit want → P (register want front.cluster n)) → (letter c n : ℕ)
      → own want front.cluster letter c ≡ true → n < limit letter → P (register letter c n)
  own_fits P want make letter c n e h =
      let t = own_true want front.cluster letter c e in
      rw (t.0, t.1) (make n (rw t.0 at h))

  either_fits : (letter c n : ℕ) → own_either front.cluster letter c ≡ true → n < limit letter → Fits front either (register letter c n)
  either_fits letter c n e h =
      let t = and_true (eqb letter r || eqb letter b) (eqb c front.cluster) e in
      let k = eqb-true c front.cluster t.1 in
      ⊎_elim
      (λ g. let m = eqb-true letter r g in rw (m, k) (general_either (rw m at h)))
      (λ g. let m = eqb-true letter b g in rw (m, k) (branch_either (rw m at h)))
      (or_true (eqb letter r) (eqb letter b) t.0)

  far_fits_lem : (letter c n : ℕ) → of_any front.from letter c ≡ true → c < 4 → n < limit letter → Fits front far (register letter c n)
  far_fits_lem letter c n e k h =
      let t = and_true (eqb letter r) (allowed front.from c) e in
      let m = eqb-true letter r t.0 in
      rw m (go front.from refl t.1 (rw m at h))
    where
      go : (from : Option ℕ) → front.from ≡ from → allowed from c ≡ true → n < 64 → Fits front far (register r c n)
      go None f a h = far_fits f k h
      go (Some d) f a h = named_fits (f ∙ ap Some (sym (eqb-true c d a))) h

  named : (i : Item) (fits : ℕ → ℕ → Bool) (ts : List Token) {o : Operand} {rest : List Token}
      → ((letter c n : ℕ) → spell_item i (register letter c n) ≡ Word (register_word letter c n) ∷ [])
      → ((letter c n : ℕ) → fits letter c ≡ true → c < 4 → n < limit letter → Fits front i (register letter c n))
      → read_register fits register ts ≡ got o rest → Sound front i ts o rest
  named i fits ts {o} {rest} spells fitting e =
      let g = register_read fits register ts e in
      subst (λ x. Sound front i ts x rest) g.is
      (fitting g.letter g.c g.n g.fitting g.cluster g.number, g.spelt ∙ ap (λ y. y ++ rest) (sym (spells g.letter g.c g.n)))

  -- the one word of the link
  link_spelt : (letter c n : ℕ) → is_link letter c ≡ true → n < limit letter → register_word letter c n ≡ register_word l 0 0
  link_spelt letter c n e h =
      let t = and_true (eqb letter l) (eqb c 0) e in
      let m = eqb-true letter l t.0 in
      let k = eqb-true c 0 t.1 in
      let z : n < 1 = rw m at h in
      let n0 : n ≡ 0 = omega arith in
      rw (m, k, n0)

  mark_sound : (m : ℕ) (ts : List Token) {o : Operand} {rest : List Token} → read_mark m ts ≡ got o rest → Sound front (mark m) ts o rest
  mark_sound m [] e = absurd (bad_not_got e)
  mark_sound m (Word w ∷ ts) e = absurd (bad_not_got e)
  mark_sound m (Mark k ∷ ts) {o} {rest} e =
      let p = picked (eqb k m) e in
      let g = got_same p.1 in
      subst (λ x. Sound front (mark m) (Mark k ∷ ts) x rest) g.0 (mark_fits, ap₂ (λ (j : ℕ) (u : List Token). Mark j ∷ u) (eqb-true k m p.0) g.1)

  value_sound : (i : Item) → ((e : Expression) → FitsE e 16 → Fits front i (value e)) → ((e : Expression) → spell_item i (value e) ≡ spell_e e)
      → (ts : List Token) {o : Operand} {rest : List Token} → read_value ts ≡ got o rest → Sound front i ts o rest
  value_sound i make spells ts {o} {rest} e =
      let g = map_got_lem value (read_e 16 ts) e in
      let s = read_sound 16 ts rest g.0 g.1 in
      subst (λ x. Sound front i ts x rest) g.2 (make g.0 s.fits, s.spelt ∙ ap (λ y. y ++ rest) (sym (spells g.0)))

  source_by_lem : (w : List ℕ) (x : Option Register) (ts : List Token) {o : Operand} {rest : List Token} → register_in w ≡ x
      → source_by front.cluster x (Word w ∷ ts) ≡ got o rest → Sound front source (Word w ∷ ts) o rest
  source_by_lem w None ts h e = value_sound source (λ e h. immediate_fits h) (λ e. refl) (Word w ∷ ts) e
  source_by_lem w (Some x) ts {o} {rest} h e =
      let g = kept_read (own r front.cluster) register w (Some x) ts h e in
      subst (λ y. Sound front source (Word w ∷ ts) y rest) g.is
      (own_fits (λ x. Fits front source x) r (λ n h. general_source h) g.letter g.c g.n g.fitting g.number, g.spelt)

  source_sound : (ts : List Token) {o : Operand} {rest : List Token} → read_source front.cluster ts ≡ got o rest → Sound front source ts o rest
  source_sound [] e = value_sound source (λ e h. immediate_fits h) (λ e. refl) [] e
  source_sound (Word w ∷ ts) e = source_by_lem w (register_in w) ts refl e
  source_sound (Mark m ∷ ts) e = value_sound source (λ e h. immediate_fits h) (λ e. refl) (Mark m ∷ ts) e

  pub item_sound : (i : Item) (ts : List Token) {o : Operand} {rest : List Token} → read_item front i ts ≡ got o rest → Sound front i ts o rest
  item_sound (mark m) ts e = mark_sound m ts e
  item_sound link ts {o} {rest} e =
      let g = register_read is_link (λ m c n. nothing) ts e in
      subst (λ x. Sound front link ts x rest) g.is
      (link_fits, g.spelt ∙ ap (λ w. Word w ∷ rest) (link_spelt g.letter g.c g.n g.fitting g.number))
  item_sound (general p) ts e =
      named (general p) (own r front.cluster) ts (λ m c n. refl) (λ m c n t k h. own_fits (λ x. Fits front (general p) x) r (λ n h. general_fits h) m c n t h) e
  item_sound (branch p) ts e =
      named (branch p) (own b front.cluster) ts (λ m c n. refl) (λ m c n t k h. own_fits (λ x. Fits front (branch p) x) b (λ n h. branch_fits h) m c n t h) e
  item_sound either ts e = named either (own_either front.cluster) ts (λ m c n. refl) (λ m c n t k h. either_fits m c n t h) e
  item_sound far ts e = named far (of_any front.from) ts (λ m c n. refl) far_fits_lem e
  item_sound source ts e = source_sound ts e
  item_sound (field f) ts e = value_sound (field f) (λ e h. field_fits h) (λ e. refl) ts e

  pub items_sound : (is : List Item) (ts : List Token) {os : List Operand} {rest : List Token} → read_items front is ts ≡ got os rest
      → FitAll front is os × (ts ≡ spell_items is os ++ rest)
  items_sound [] ts {os} {rest} e =
      let g = got_same e in
      subst (λ x. FitAll front [] x × (ts ≡ spell_items [] x ++ rest)) g.0 (no_items, g.1)
  items_sound (i ∷ is) ts {os} {rest} e =
      let a = then_got (read_item front i ts) _ e in
      let m = map_got_lem _ (read_items front is a.1) a.3 in
      let h = item_sound i ts a.2 in
      let t = items_sound is a.1 m.1 in
      subst (λ x. FitAll front (i ∷ is) x × (ts ≡ spell_items (i ∷ is) x ++ rest)) m.2
      (more_items h.0 t.0, h.1 ∙ (ap (λ y. spell_item i a.0 ++ y) t.1 ∙ sym (append_assoc (spell_item i a.0) (spell_items is m.0) rest)))

front_read : (ts : List Token) {front : Front} {rest : List Token} → read_front ts ≡ got front rest
    → (ts ≡ Word (cluster_word front.cluster) ∷ spell_from front.from ++ rest) × (front.cluster < 4) × ((k : ℕ) → front.from ≡ Some k → k < 4)
front_read ts {front} {rest} e =
    let a = then_got (read_cluster ts) _ e in
    let c = cluster_read ts a.2 in
    go a.0 a.1 c.0 c.1 a.3
  where
    go : (c : ℕ) (mid : List Token) → ts ≡ Word (cluster_word c) ∷ mid → c < 4 → read_from c mid ≡ got front rest
        → (ts ≡ Word (cluster_word front.cluster) ∷ spell_from front.from ++ rest) × (front.cluster < 4) × ((k : ℕ) → front.from ≡ Some k → k < 4)
    go c [] s h e = absurd (bad_not_got e)
    go c (Word w ∷ mid) s h e =
        let g = got_same e in
        subst (λ f. (ts ≡ Word (cluster_word f.cluster) ∷ spell_from f.from ++ rest) × (f.cluster < 4) × ((k : ℕ) → f.from ≡ Some k → k < 4)) g.0
        (s ∙ ap (λ y. Word (cluster_word c) ∷ y) g.1, h, λ k i. absurd (none_not_some i))
    go c (Mark m ∷ mid) s h e =
        let p = picked (eqb m 61) e in
        let g = map_got_lem _ (read_cluster mid) p.1 in
        let d = cluster_read mid g.1 in
        subst (λ f. (ts ≡ Word (cluster_word f.cluster) ∷ spell_from f.from ++ rest) × (f.cluster < 4) × ((k : ℕ) → f.from ≡ Some k → k < 4)) g.2
        (s ∙ ap₂ (λ (j : ℕ) (u : List Token). Word (cluster_word c) ∷ Mark j ∷ u) (eqb-true m 61 p.0) d.0, h, λ k i. rw (← some_same i) d.1)

front_fits : (row : ℕ) (from : Option ℕ) → fronted row from ≡ true → ((k : ℕ) → from ≡ Some k → k < 4) → FrontFits row from
front_fits row None e h = eqb-false row moves (not-true (eqb row moves) e)
front_fits row (Some k) e h = (eqb-true row moves e, h k refl)

pub operation_sound : (ts rest : List Token) (o : Operation) → read_operation ts ≡ got o rest → FitsOperation o × (ts ≡ spell_operation o ++ rest)
unfolding read_operation
operation_sound ts rest o e =
    let a = then_got (read_front ts) _ e in
    let front = a.0 in
    let f = front_read ts a.2 in
    let b = then_got (read_name a.1) _ a.3 in
    let row = b.0 in
    let n = name_read a.1 b.2 in
    let p = picked (fronted row front.from) b.3 in
    let m = map_got_lem _ (read_items front (row_at row).items b.1) p.1 in
    let i = items_sound front (row_at row).items b.1 m.1 in
    subst (λ x. FitsOperation x × (ts ≡ spell_operation x ++ rest)) m.2 (
      record { cluster = f.1; named = n.1; from = front_fits row front.from p.0 f.2; operands = i.0 },
      f.0
          ∙ (ap (λ y. Word (cluster_word front.cluster) ∷ spell_from front.from ++ y) (n.0 ∙ ap (λ y. Word (row_at row).name ∷ y) i.1)
          ∙ ap (λ y. Word (cluster_word front.cluster) ∷ y) (sym (append_assoc (spell_from front.from) (Word (row_at row).name ∷ spell_items (row_at row).items m.0) rest))),
    )
