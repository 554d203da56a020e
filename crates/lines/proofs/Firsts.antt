-- The first line of a text begins with what the code finds at its start: an item, and what follows it.
use mathlib.Core.Path.{◌≡◌, refl, sym, ap, ◌∙◌}
use mathlib.Core.Logic.{⊎_elim}
use mathlib.Core.Bool.{Bool, true, false, ◌&&◌}
use mathlib.Core.List.{List, [], ◌∷◌, ◌++◌, map}
use Prim.Native.Nat.{ℕ, zero, suc, ◌+◌, ◌*◌}
use native.Mathlib.Omega.{arith}
use lib.Dec.{eqb, ltb}
use lib.ListN.{length, drop}
use borrow.Author.Tests.{eqb-true, eq-eqb, ne_eqb, lt-ltb, le-ltb, ltb-true}
use Rattle.std.specs.Prelude.{Option, None, Some}
use Rattle.word.specs.Choice.{pick}
use Rattle.word.proofs.Choice.{by_test, bool_same}
use Rattle.lines.specs.Digits.{is_digit, digit_of, number_from, number_of}
use Rattle.lines.specs.Lines.{newline, blank, pieces, every, is_number, are_items, items_of, Line, Broken, Holds, first_line}
use Rattle.lines.specs.Items.{item_from, item_at}
use Rattle.lines.specs.declared.items.Item.{Item}
use Rattle.lines.specs.declared.items.Item.TheVariants.{Inner, Last}
use Rattle.lines.proofs.Digits.{is_digit_lem}

-- ---- there is always a first piece

pub record Cut (s : ℕ) (l : List ℕ) : Type 0 where
  pub first : List ℕ
  pub others : List (List ℕ)
  pub are : pieces s l ≡ first ∷ others

cut_by : (s b : ℕ) (l : List ℕ) → Cut s l → (t : Bool) → eqb b s ≡ t → Cut s (b ∷ l)
cut_by s b l c true e = record { first = []; others = pieces s l; are = rw e }
cut_by s b l c false e = record { first = b ∷ c.first; others = c.others; are = rw (e, c.are) }

pub cut_of : (s : ℕ) (l : List ℕ) → Cut s l
cut_of s [] = record { first = []; others = []; are = refl }
cut_of s (b ∷ l) = cut_by s b l (cut_of s l) (eqb b s) refl

-- ---- a line of which k digits of the first item are to come, after what was read before them

abbrev good_from : ℕ → ℕ → List (List ℕ) → Bool
good_from d k [] = false
good_from d k (q ∷ qs) = is_number k q && every (is_number d) qs

abbrev values_from : ℕ → List (List ℕ) → List ℕ
values_from v [] = []
values_from v (q ∷ qs) = number_from v q ∷ map number_of qs

abbrev line_from : ℕ → ℕ → ℕ → List (List ℕ) → Line
line_from d k v [] = Broken
line_from d k v (rest ∷ []) = Broken
line_from d k v (line ∷ next ∷ lines) = pick (good_from d k (pieces blank line)) (Holds (values_from v (pieces blank line)) (next ∷ lines)) Broken

whole : (d : ℕ) (ps : List (List ℕ)) → line_from d d 0 ps ≡ first_line d ps
whole d [] = refl
whole d (rest ∷ []) = refl
whole d (line ∷ next ∷ lines) = rw (cut_of blank line).are

infixr 20 ◌onto◌
abbrev pub ◌onto◌ : List ℕ → Line → Line
vs onto Broken = Broken
vs onto Holds ws lines = Holds (vs ++ ws) lines

abbrev pub after : ℕ → Option Item → List ℕ → Line
after d None rest = Broken
after d (Some (Inner v)) rest = (v ∷ []) onto first_line d (pieces newline rest)
after d (Some (Last v)) rest = Holds (v ∷ []) (pieces newline rest)

onto_pick : (t : Bool) (v : ℕ) (ws : List ℕ) (lines : List (List ℕ)) → pick t (Holds (v ∷ ws) lines) Broken ≡ ((v ∷ []) onto pick t (Holds ws lines) Broken)
onto_pick true v ws lines = refl
onto_pick false v ws lines = refl

-- ---- by the first byte

eqb_suc : (m n : ℕ) → eqb (suc m) (suc n) ≡ eqb m n
eqb_suc m n =
    bool_same (eqb (suc m) (suc n)) (eqb m n)
    (λ e. let h = eqb-true (suc m) (suc n) e in eq-eqb m n (omega arith))
    (λ e. let h = eqb-true m n e in eq-eqb (suc m) (suc n) (omega arith))

ltb_suc : (m n : ℕ) → ltb (suc m) (suc n) ≡ ltb m n
ltb_suc m n =
    bool_same (ltb (suc m) (suc n)) (ltb m n)
    (λ e. let h = ltb-true (suc m) (suc n) e in lt-ltb m n (omega arith))
    (λ e. let h = ltb-true m n e in lt-ltb (suc m) (suc n) (omega arith))

and_none : (t : Bool) → t && false ≡ false
and_none true = refl
and_none false = refl

-- a line whose first item is bad
bad_line : (d k v : ℕ) (p : List ℕ) (ps : List (List ℕ)) → good_from d k (pieces blank p) ≡ false → line_from d k v (p ∷ ps) ≡ Broken
bad_line d k v p [] e = refl
bad_line d k v p (q ∷ ps) e = rw e

ends_item : (d v b : ℕ) (p : List ℕ) (ps : List (List ℕ)) → eqb b blank ≡ true
    → line_from d 0 v ((b ∷ p) ∷ ps) ≡ ((v ∷ []) onto first_line d (p ∷ ps))
ends_item d v b p [] s = refl
ends_item d v b p (q ∷ ps) s = rw s (onto_pick (are_items d p) v (items_of p) (q ∷ ps))

too_long : (d b : ℕ) (p : List ℕ) → eqb b blank ≡ false → good_from d 0 (pieces blank (b ∷ p)) ≡ false
too_long d b p s = let c = cut_of blank p in rw (s, c.are, ne_eqb (suc (length c.first)) 0 (λ e. omega arith))

too_short : (d k : ℕ) (qs : List (List ℕ)) → good_from d (suc k) ([] ∷ qs) ≡ false
too_short d k qs = rw (ne_eqb 0 (suc k) (λ e. omega arith))

no_digit : (d k b : ℕ) (p : List ℕ) → is_digit b ≡ false → (t : Bool) → eqb b blank ≡ t → good_from d (suc k) (pieces blank (b ∷ p)) ≡ false
no_digit d k b p n true s = rw s (too_short d k (pieces blank p))
no_digit d k b p n false s =
    let c = cut_of blank p in
    rw (s, c.are, n, and_none (eqb (suc (length c.first)) (suc k)))

-- no digit of this item is to come
at_zero : (d v b : ℕ) (l : List ℕ) (n s : Bool) → eqb b newline ≡ n → eqb b blank ≡ s
    → line_from d 0 v (pieces newline (b ∷ l)) ≡ after d (item_from 0 v (b ∷ l)) l
at_zero d v b l true true n s = let h = eqb-true b newline n in let k = eqb-true b blank s in absurd (omega arith)
at_zero d v b l true false n s = rw (n, s, lt-ltb 0 (suc (length l)) (omega arith), (cut_of newline l).are)
at_zero d v b l false true n s =
    let c = cut_of newline l in
    rw (n, s, lt-ltb 0 (suc (length l)) (omega arith), c.are) (ends_item d v b c.first c.others s)
at_zero d v b l false false n s =
    let c = cut_of newline l in
    rw (n, s, lt-ltb 0 (suc (length l)) (omega arith), c.are) (bad_line d 0 v (b ∷ c.first) c.others (too_long d b c.first s))

-- a digit
digit_line : (d k v b : ℕ) (p : List ℕ) (ps : List (List ℕ)) → is_digit b ≡ true → eqb b blank ≡ false
    → line_from d (suc k) v ((b ∷ p) ∷ ps) ≡ line_from d k (v * 16 + digit_of b) (p ∷ ps)
digit_line d k v b p [] h s = refl
digit_line d k v b p (q ∷ ps) h s = let c = cut_of blank p in rw (s, c.are, h, eqb_suc (length c.first) k)

digit_item : (k v b : ℕ) (l : List ℕ) → is_digit b ≡ true → item_from (suc k) v (b ∷ l) ≡ item_from k (v * 16 + digit_of b) l
digit_item k v b l h = rw (h, ltb_suc k (length l))

no_digit_item : (k v b : ℕ) (l : List ℕ) → is_digit b ≡ false → item_from (suc k) v (b ∷ l) ≡ None
no_digit_item k v b l h = rw (h, and_none (ltb (suc k) (suc (length l))))

no_digit_line : (d k v b : ℕ) (l : List ℕ) → is_digit b ≡ false → (t : Bool) → eqb b newline ≡ t → line_from d (suc k) v (pieces newline (b ∷ l)) ≡ Broken
no_digit_line d k v b l h true n = rw n (bad_line d (suc k) v [] (pieces newline l) (too_short d k []))
no_digit_line d k v b l h false n =
    let c = cut_of newline l in
    rw (n, c.are) (bad_line d (suc k) v (b ∷ c.first) c.others (no_digit d k b c.first h (eqb b blank) refl))

not_newline : (b : ℕ) → is_digit b ≡ true → eqb b newline ≡ false
not_newline b h = ne_eqb b newline (λ e. ⊎_elim (λ p. omega arith) (λ p. omega arith) (is_digit_lem b h))

not_blank : (b : ℕ) → is_digit b ≡ true → eqb b blank ≡ false
not_blank b h = ne_eqb b blank (λ e. ⊎_elim (λ p. omega arith) (λ p. omega arith) (is_digit_lem b h))

digit_step : (d k v b : ℕ) (l : List ℕ) → is_digit b ≡ true
    → line_from d (suc k) v (pieces newline (b ∷ l)) ≡ line_from d k (v * 16 + digit_of b) (pieces newline l)
digit_step d k v b l h =
    let c = cut_of newline l in rw (not_newline b h, c.are) (digit_line d k v b c.first c.others h (not_blank b h))

first_from : (d k v : ℕ) (t : List ℕ) → line_from d k v (pieces newline t) ≡ after d (item_from k v t) (drop (suc k) t)
first_from d k v [] = rw (le-ltb k 0 (omega arith))
first_from d zero v (b ∷ l) = at_zero d v b l (eqb b newline) (eqb b blank) refl refl
first_from d (suc k) v (b ∷ l) =
    let rest = first_from d k (v * 16 + digit_of b) l in
    ⊎_elim
    (λ h. digit_step d k v b l h ∙ rest ∙ ap (λ (i : Option Item). after d i (drop (suc k) l)) (sym (digit_item k v b l h)))
    (λ h. rw (no_digit_item k v b l h) (no_digit_line d k v b l h (eqb b newline) refl))
    (by_test (is_digit b))

-- the first line of a text, by what is found at its start
pub first_line_lem : (d : ℕ) (t : List ℕ) → first_line d (pieces newline t) ≡ after d (item_at d t) (drop (suc d) t)
unfolding item_at
first_line_lem d t = sym (whole d (pieces newline t)) ∙ first_from d d 0 t
