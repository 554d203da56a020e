-- A program's lines, read syllable by syllable.
use mathlib.Core.Path.{◌≡◌, refl, sym, ap, ◌∙◌}
use mathlib.Core.Bool.{Bool, true, false, ◌&&◌, ◌||◌}
use mathlib.Core.List.{List, [], ◌∷◌, ◌++◌, map, append_assoc, append-nil}
use Prim.Native.Nat.{ℕ, suc, ◌+◌, ◌<◌}
use native.Mathlib.Numerals.{add-one}
use native.Mathlib.Omega.{arith}
use lib.Dec.{eqb}
use lib.ListN.{length, drop, length-drop}
use borrow.Author.Tests.{eqb-true, eqb-false}
use Rattle.std.specs.Prelude.{Option, None, Some}
use Rattle.word.specs.Choice.{pick}
use Rattle.word.specs.Bytes.{bytes}
use Rattle.isa.specs.Syllable.{ends}
use Rattle.lines.specs.Digits.{number_of}
use Rattle.lines.specs.Lines.{newline, blank, cut, pieces, every, is_number, are_items, items_of, Line, Broken, Holds, first_line, ends_once, word_bytes, Program, BadLine, Code, ◌before◌, program_from}
use Rattle.lines.specs.Items.{item_at, judged, syllable_at}
use Rattle.lines.specs.declared.items.Item.{Item}
use Rattle.lines.specs.declared.items.Item.TheVariants.{Inner, Last}
use Rattle.lines.proofs.Finding.{found_long}
use Rattle.lines.proofs.Firsts.{cut_of, ◌onto◌, after, first_line_lem}

pub before_append : (xs ys : List ℕ) (p : Program) → ((xs ++ ys) before p) ≡ (xs before (ys before p))
before_append xs ys (BadLine i) = refl
before_append xs ys (Code zs) = ap Code (append_assoc xs ys zs)

-- ---- a program by its first line

by_line : ℕ → Line → Program
by_line i Broken = BadLine i
by_line i (Holds ws lines) = pick (ends_once ws) (word_bytes ws before program_from (suc i) lines) (BadLine i)

picked : (i : ℕ) (t : Bool) (ws : List ℕ) (lines : List (List ℕ))
    → pick (t && ends_once ws) (word_bytes ws before program_from (suc i) lines) (BadLine i) ≡ by_line i (pick t (Holds ws lines) Broken)
unfolding by_line
picked i true ws lines = refl
picked i false ws lines = refl

-- what is left of a text is no line only if it is empty
no_empty : (b : ℕ) (t : List ℕ) (n : Bool) → cut n b (pieces newline t) ≡ [] ∷ [] → ⊥
no_empty b t true e =
    let c = cut_of newline t in
    let h = c.are in
    let z : ◌≡◌ {A = ℕ} 0 1 = cc in
    omega arith
no_empty b t false e =
    let c = cut_of newline t in
    let h : (b ∷ c.first) ∷ c.others ≡ [] ∷ [] = rw c.are at e in
    let z : ◌≡◌ {A = ℕ} 0 1 = cc in
    omega arith

by_first : (i b : ℕ) (t p : List ℕ) (ps : List (List ℕ)) → pieces newline (b ∷ t) ≡ p ∷ ps → program_from i (p ∷ ps) ≡ by_line i (first_line 8 (p ∷ ps))
unfolding by_line
by_first i b t [] [] e = absurd (no_empty b t (eqb b newline) e)
by_first i b t (x ∷ p) [] e = refl
by_first i b t p (q ∷ ps) e = picked i (are_items 8 p) (items_of p) (q ∷ ps)

by_line_lem : (i b : ℕ) (t : List ℕ) → program_from i (pieces newline (b ∷ t)) ≡ by_line i (first_line 8 (pieces newline (b ∷ t)))
by_line_lem i b t =
    let c = cut_of newline (b ∷ t) in
    ap (program_from i) c.are ∙ by_first i b t c.first c.others c.are ∙ ap (λ (ps : List (List ℕ)). by_line i (first_line 8 ps)) (sym c.are)

-- ---- a line by its first syllable

-- a line has an item
unfoldable pub HasItem : Line → Type 0
HasItem Broken = Unit {0}
HasItem (Holds [] lines) = ⊥
HasItem (Holds (w ∷ ws) lines) = Unit {0}

some_picked : (t : Bool) (w : ℕ) (ws : List ℕ) (lines : List (List ℕ)) → HasItem (pick t (Holds (w ∷ ws) lines) Broken)
unfolding HasItem
some_picked true w ws lines = tt
some_picked false w ws lines = tt

pub some : (d : ℕ) (ps : List (List ℕ)) → HasItem (first_line d ps)
unfolding HasItem
some d [] = tt
some d (p ∷ []) = tt
some d (p ∷ q ∷ ps) = let c = cut_of blank p in rw c.are (some_picked (is_number d c.first && every (is_number d) c.others) (number_of c.first) (map number_of c.others) (q ∷ ps))

-- bit 31 before a blank
ended_early : (i w : ℕ) (l : Line) → HasItem l → ends w ≡ true → by_line i ((w ∷ []) onto l) ≡ BadLine i
unfolding by_line HasItem
ended_early i w Broken s e = refl
ended_early i w (Holds [] lines) s e = absurd s
ended_early i w (Holds (v ∷ ws) lines) s e = rw e

goes_on_lem : (i w : ℕ) (l : Line) → HasItem l → ends w ≡ false → by_line i ((w ∷ []) onto l) ≡ (bytes 4 w before by_line i l)
unfolding by_line HasItem
goes_on_lem i w Broken s e = refl
goes_on_lem i w (Holds [] lines) s e = absurd s
goes_on_lem i w (Holds (v ∷ ws) lines) s e = rw e (longer (ends_once (v ∷ ws)))
  where
    longer : (t : Bool)
        → pick t (word_bytes (w ∷ v ∷ ws) before program_from (suc i) lines) (BadLine i)
        ≡ (bytes 4 w before pick t (word_bytes (v ∷ ws) before program_from (suc i) lines) (BadLine i))
    longer true = before_append (bytes 4 w) (word_bytes (v ∷ ws)) (program_from (suc i) lines)
    longer false = refl

-- ---- a program by its first syllable

abbrev pub after_syllable : ℕ → Option Item → List ℕ → Program
after_syllable i None rest = BadLine i
after_syllable i (Some (Inner w)) rest = bytes 4 w before program_from i (pieces newline rest)
after_syllable i (Some (Last w)) rest = bytes 4 w before program_from (suc i) (pieces newline rest)

more : (i w : ℕ) (rest : List ℕ) → 0 < length rest → ends w ≡ false
    → by_line i ((w ∷ []) onto first_line 8 (pieces newline rest)) ≡ (bytes 4 w before program_from i (pieces newline rest))
more i w [] h e = absurd (omega arith)
more i w (x ∷ rest) h e =
    goes_on_lem i w (first_line 8 (pieces newline (x ∷ rest))) (some 8 (pieces newline (x ∷ rest))) e
    ∙ ap (λ (p : Program). bytes 4 w before p) (sym (by_line_lem i x rest))

none : (i w : ℕ) (rest : List ℕ) → length rest ≡ 0 → by_line i ((w ∷ []) onto first_line 8 (pieces newline rest)) ≡ BadLine i
unfolding by_line
none i w [] h = refl
none i w (x ∷ rest) h = absurd (omega arith)

last : (i w : ℕ) (rest : List ℕ) (e : Bool)
    → pick e (word_bytes (w ∷ []) before program_from (suc i) (pieces newline rest)) (BadLine i) ≡ after_syllable i (pick e (Some (Last w)) None) rest
last i w rest true = refl
last i w rest false = refl

inner : (i w : ℕ) (text rest : List ℕ) → length text ≡ 9 + length rest → (e n : Bool) → ends w ≡ e → eqb (length text) 9 ≡ n
    → by_line i ((w ∷ []) onto first_line 8 (pieces newline rest)) ≡ after_syllable i (pick (e || n) None (Some (Inner w))) rest
inner i w text rest l true n e k = ended_early i w (first_line 8 (pieces newline rest)) (some 8 (pieces newline rest)) e
inner i w text rest l false true e k = let m = eqb-true (length text) 9 k in none i w rest (omega arith)
inner i w text rest l false false e k = more i w rest (by_zero rest (λ z. eqb-false (length text) 9 k (omega arith))) e
  where
    by_zero : (l : List ℕ) → (length l ≡ 0 → ⊥) → 0 < length l
    by_zero [] z = absurd (z refl)
    by_zero (x ∷ l) z = omega arith

by_item : (i b : ℕ) (t : List ℕ) (item : Option Item) → item_at 8 (b ∷ t) ≡ item
    → by_line i (after 8 item (drop 9 (b ∷ t))) ≡ after_syllable i (judged (b ∷ t) item) (drop 9 (b ∷ t))
unfolding by_line
by_item i b t None e = refl
by_item i b t (Some (Last w)) e = last i w (drop 9 (b ∷ t)) (ends w)
by_item i b t (Some (Inner w)) e =
    let h = found_long 8 (b ∷ t) e in
    inner i w (b ∷ t) (drop 9 (b ∷ t)) (omega (arith, length-drop 9 (b ∷ t))) (ends w) (eqb (length (b ∷ t)) 9) refl refl

pub by_syllable : (i : ℕ) (t : List ℕ) → 0 < length t → program_from i (pieces newline t) ≡ after_syllable i (syllable_at t) (drop 9 t)
unfolding syllable_at
by_syllable i [] h = absurd (omega arith)
by_syllable i (b ∷ t) h =
    by_line_lem i b t ∙ ap (by_line i) (first_line_lem 8 (b ∷ t)) ∙ by_item i b t (item_at 8 (b ∷ t)) refl

-- ---- the loop over syllables: the program is what was put, and what the lines from here on hold

pub record Left (whole : Program) (program : List ℕ) (line : ℕ) (rest : List ℕ) : Type 0 where
  pub says : whole ≡ (program before program_from line (pieces newline rest))

before_none : (p : Program) → p ≡ ([] before p)
before_none (BadLine i) = refl
before_none (Code zs) = refl

pub left : (text : List ℕ) → Left (program_from 4 (pieces newline text)) [] 4 text
left text = record { says = before_none (program_from 4 (pieces newline text)) }

module _ {whole : Program} {program : List ℕ} {line : ℕ} {rest : List ℕ} (e : Left whole program line rest) where
  pub left_end : length rest ≡ 0 → Code program ≡ whole
  left_end h = sym (by rest h e.says)
    where
      by : (l : List ℕ) → length l ≡ 0 → whole ≡ (program before program_from line (pieces newline l)) → whole ≡ Code program
      by [] h f = f ∙ ap Code (append-nil program)
      by (b ∷ l) h f = absurd (omega arith)

  module _ (h : 0 < length rest) where
    found : {item : Option Item} → syllable_at rest ≡ item → whole ≡ (program before after_syllable line item (drop 9 rest))
    found i = e.says ∙ ap (λ (p : Program). program before p) (by_syllable line rest h) ∙ rw (sym i)

    pub left_bad : syllable_at rest ≡ None → BadLine line ≡ whole
    left_bad i = sym (found i)

    module _ {w : ℕ} {more behind : List ℕ} (m : more ≡ program ++ bytes 4 w) (d : behind ≡ drop 9 rest) where
      pub left_inner : syllable_at rest ≡ Some (Inner w) → Left whole more line behind
      left_inner i = rw (m, d) (record { says = found i ∙ sym (before_append program (bytes 4 w) (program_from line (pieces newline (drop 9 rest)))) })

      pub left_last : syllable_at rest ≡ Some (Last w) → Left whole more (line + 1) behind
      left_last i = rw (m, d, add-one) (record { says = found i ∙ sym (before_append program (bytes 4 w) (program_from (suc line) (pieces newline (drop 9 rest)))) })

pub ruleset program_steps = (left, left_bad, left_inner, left_last, left_end)
