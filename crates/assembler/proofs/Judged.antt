-- Going from line to line, with the place where a label is first given, comes to the verdict.
use mathlib.Core.Path.{◌≡◌, refl, sym, ap, subst, ◌∙◌}
use mathlib.Core.Bool.{Bool, true, false, not, ◌&&◌, ◌||◌}
use mathlib.Core.List.{List, [], ◌∷◌, ◌++◌, map, append_assoc}
use mathlib.Core.Option.{Option as Maybe, none, some}
use Rattle.std.specs.Prelude.{Option, None, Some, IfSome, Ok, Err}
use Prim.Native.Nat.{ℕ, suc, ◌+◌}
use native.Mathlib.Omega.{arith}
use borrow.Author.Tests.{eq-eqb, ne_eqb}
use lib.Dec.{eqb}
use lib.ListN.{length, drop}
use Rattle.word.specs.Choice.{pick}
use Rattle.word.specs.Lists.{any}
use Rattle.operations.specs.Meaning.{Syllable}
use Rattle.values.specs.declared.Fault.TheVariants.{Missing, Outside}
use Rattle.source.specs.Grammar.{lines_of}
use Rattle.source.specs.Heard.{Heard}
use Rattle.source.specs.Walk.{Walk, start, refused, step}
use Rattle.source.specs.Labels.{given_by, gives}
use Rattle.source.specs.Reader.{hear, hear_all}
use Rattle.source.specs.Seek.{lines_from, seek}
use Rattle.source.specs.Each.{Gives}
use Rattle.source.proofs.Places.{lines_here}
use Rattle.source.specs.declared.reading.ReadLine.{ReadLine}
use Rattle.source.specs.declared.each_line.Lines.{Lines}
use Rattle.evaluation.specs.Evaluated.{labels_of}
use Rattle.assembler.specs.Faults.{is_missing, is_outside, syllable_in, does_by, is_in, number_of, verdict_from, verdict, Verdict, Sound, Fault}
use Rattle.assembler.specs.Passes.{is_at, elsewhere, number_by, number_at, judged_from, number_of_wrong}
use Rattle.assembler.specs.declared.judging.Wrong.{Wrong}
use Rattle.assembler.specs.declared.judging.Wrong.TheVariants as wrong
use Rattle.tokens.proofs.Same.{same_self}

-- the bytes of lines, each with its newline
abbrev pub size_of : List (List ℕ) → ℕ
size_of [] = 0
size_of (l ∷ ls) = length l + 1 + size_of ls

-- the place where a name is found first is that of a line which gives it, unless one above does
first_place : (w : Walk) (at : ℕ) (above : List (List ℕ)) (l : List ℕ) (ls : List (List ℕ)) (name : List ℕ) {place : ℕ} → place ≡ at + size_of above
    → gives name (hear l) ≡ true → is_at place (seek w at (above ++ (l ∷ ls)) name) ≡ not (any (gives name) (map hear above))
first_place w at [] l ls name e g = let p = eq-eqb at _ (sym (e ∙ omega arith)) in rw (g, p)
first_place w at (a ∷ above) l ls name {place} e g = go (gives name (hear a)) _ (first_place (step w (hear a)) (at + length a + 1) above l ls name (e ∙ omega arith) g)
  where
    go : (t : Bool) (index : ℕ) → is_at place (seek (step w (hear a)) (at + length a + 1) (above ++ (l ∷ ls)) name) ≡ not (any (gives name) (map hear above))
        → is_at place (pick t (Some (record { place = at; value = index })) (seek (step w (hear a)) (at + length a + 1) (above ++ (l ∷ ls)) name)) ≡ not (t || any (gives name) (map hear above))
    go true index i = ne_eqb at place (omega arith)
    go false index i = i

not_not : (b : Bool) → not (not b) ≡ b
not_not true = refl
not_not false = refl

by_fault : (r x : Bool) (s : Syllable) → pick r 18 (pick x 19 (number_by s))
    ≡ pick r 18 (pick (x || (not r && is_missing s)) 19 (pick (not r && not (x || (not r && is_missing s)) && is_outside s) 20 0))
by_fault true x s = refl
by_fault false true s = refl
by_fault false false (Ok n) = refl
by_fault false false (Err Missing) = refl
by_fault false false (Err Outside) = refl

module _ (text : List ℕ) where
  module _ (above : List (List ℕ)) (l : List ℕ) (ls : List (List ℕ)) (e : lines_of text ≡ above ++ (l ∷ ls)) {place : ℕ} (at : place ≡ size_of above) where
    is_elsewhere : (given : Maybe (List ℕ)) → given_by (hear l) ≡ given → elsewhere text place given ≡ is_in (map hear above) given
    is_elsewhere none g = refl
    is_elsewhere (some name) g =
        let y : gives name (hear l) ≡ true = rw (g, same_self name) in
        ap not (ap (λ (x : List (List ℕ)). is_at place (seek start 0 x name)) e ∙ first_place start 0 above l ls name (at ∙ omega arith) y) ∙ not_not (any (gives name) (map hear above))

    number_at_lem : (w : Walk) → number_at text w place (hear l) ≡ number_of (labels_of text) (map hear above) w (hear l)
    number_at_lem w =
        ap (λ (x : Bool). pick (refused w (hear l)) 18 (pick x 19 (number_by (syllable_in (labels_of text) (does_by (hear l)))))) (is_elsewhere (given_by (hear l)) refl)
        ∙ by_fault (refused w (hear l)) (is_in (map hear above) (given_by (hear l))) (syllable_in (labels_of text) (does_by (hear l)))

  map_more : (above : List (List ℕ)) (l : List ℕ) → map hear (above ++ (l ∷ [])) ≡ map hear above ++ (hear l ∷ [])
  map_more [] l = refl
  map_more (a ∷ above) l = ap (λ (x : List Heard). hear a ∷ x) (map_more above l)

  size_more : (above : List (List ℕ)) (l : List ℕ) → size_of (above ++ (l ∷ [])) ≡ size_of above + length l + 1
  size_more [] l = omega arith
  size_more (a ∷ above) l = let i = size_more above l in omega arith

  from : (above ls : List (List ℕ)) (w : Walk) (i : ℕ) {place : ℕ} → lines_of text ≡ above ++ ls → place ≡ size_of above
      → judged_from text w place i ls ≡ verdict_from (labels_of text) (map hear above) w i (map hear ls)
  from above [] w i e at = refl
  from above (l ∷ ls) w i {place} e at =
      ap (λ (n : ℕ). pick (eqb n 0) (judged_from text (step w (hear l)) (place + length l + 1) (suc i) ls) (Fault i n)) (number_at_lem above l ls e at w)
      ∙ ap (λ (v : Verdict). pick (eqb (number_of (labels_of text) (map hear above) w (hear l)) 0) v (Fault i (number_of (labels_of text) (map hear above) w (hear l)))) (
      from (above ++ (l ∷ [])) ls (step w (hear l)) (suc i) (e ∙ sym (append_assoc above (l ∷ []) ls)) (ap (λ (n : ℕ). n + length l + 1) at ∙ sym (size_more above l))
      ∙ ap (λ (x : List Heard). verdict_from (labels_of text) x (step w (hear l)) (suc i) (map hear ls)) (map_more above l))

  pub judged : judged_from text start 0 0 (lines_of text) ≡ verdict (hear_all text)
  unfolding verdict
  judged = from [] (lines_of text) start 0 refl refl

-- the verdict from a place on, if there is a line
abbrev pub judged_on : List ℕ → Walk → Option ℕ → ℕ → Verdict
judged_on text w None i = Sound w.count
judged_on text w (Some at) i = judged_from text w at i (lines_of (drop at text))

-- no line has the number 0
pub some_number : (e : Wrong) → number_of_wrong e ≡ 0 → ⊥
some_number wrong.Line e = omega arith
some_number wrong.Label e = omega arith
some_number wrong.Value e = omega arith

module _ {s t : Lines} {at : ℕ} {l : ReadLine} (g : Gives s at l t) (text : List ℕ) (z : s.text.now ≡ text) (w : Walk) (i : ℕ) {k : ℕ}
    (e : k ≡ number_at text w at (hear l.bytes.now)) where
  here : lines_of (drop at text) ≡ l.bytes.now ∷ lines_from text t.next
  here = subst (λ (x : List ℕ). lines_of (drop at x) ≡ l.bytes.now ∷ lines_from x t.next) z (lines_here g)

  pub judged_here : (k ≡ 0 → ⊥) → judged_on text w s.next i ≡ Fault i k
  judged_here f = rw (g.place, here, ← e, ne_eqb k 0 f)

  pub judged_more : k ≡ 0 → judged_on text w s.next i ≡ judged_on text (step w (hear l.bytes.now)) t.next (i + 1)
  judged_more f = rw (g.place, here, ← e, f) (go t.next g.next)
    where
      v : Walk
      v = step w (hear l.bytes.now)

      go : (o : Option ℕ) → IfSome o (λ n. n ≡ at + length l.bytes.now + 1)
          → judged_from text v (at + length l.bytes.now + 1) (suc i) (lines_from text o) ≡ judged_on text v o (i + 1)
      go None e = refl
      go (Some n) e = let m : i + 1 ≡ suc i = omega arith in rw (e, m)
