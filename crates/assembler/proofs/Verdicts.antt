-- The first line with a number is the lowest line with a fault, and there is one verdict on a text.
use mathlib.Core.Path.{◌≡◌, refl, sym, subst, ap, ap₂, ◌∙◌}
use mathlib.Core.Bool.{Bool, true, false}
use mathlib.Core.List.{List, [], ◌∷◌, ◌++◌, append_assoc, append-nil}
use mathlib.Core.Option.{none}
use Prim.Native.Nat.{ℕ, suc, ◌+◌, ◌≤◌, ◌<◌}
use native.Mathlib.Decide.{dec_lt}
use native.Mathlib.Omega.{arith}
use borrow.Author.Tests.{eqb-true, eqb-false}
use lib.Dec.{eqb}
use lib.ListN.{length, get_or, take, length-append}
use lib.Seq.{take-append_seam, get_or-append_seam}
use Rattle.word.specs.Choice.{pick}
use Rattle.source.specs.Heard.{Heard, says}
use Rattle.source.specs.Walk.{Walk, start, step, walked}
use Rattle.source.specs.Labels.{value_of}
use Rattle.assembler.specs.Faults.{has18, has19, has20, broken, Judges, number_of, verdict_from, verdict, Verdict, Sound, Fault}
use Rattle.assembler.proofs.Numbers.{no_fault, is_fault, lowest_fault}

pub walked_append : (w : Walk) (xs ys : List Heard) → walked w (xs ++ ys) ≡ walked (walked w xs) ys
walked_append w [] ys = refl
walked_append w (x ∷ xs) ys = walked_append (step w x) xs ys

module _ (hs : List Heard) where
  -- the number of line j
  abbrev at : ℕ → ℕ
  at j = number_of (value_of hs) (take j hs) (walked start (take j hs)) (get_or hs j (says none none false))

  module _ (j : ℕ) where
    abbrev above : List Heard
    above = take j hs

    abbrev w : Walk
    w = walked start above

    abbrev h : Heard
    h = get_or hs j (says none none false)

    clean : (m : ℕ) → at j ≡ 0 → broken hs j m ≡ true → ⊥
    clean m e b = no_fault (has18 (value_of hs) above w h) (has19 (value_of hs) above w h) (has20 (value_of hs) above w h) m e b

    faulty : (at j ≡ 0 → ⊥) → broken hs j (at j) ≡ true
    faulty e = is_fault (has18 (value_of hs) above w h) (has19 (value_of hs) above w h) (has20 (value_of hs) above w h) e

    least : (m : ℕ) → broken hs j m ≡ true → at j ≤ m
    least m b = lowest_fault (has18 (value_of hs) above w h) (has19 (value_of hs) above w h) (has20 (value_of hs) above w h) m b

  -- what a verdict from line i on says of the lines' numbers
  abbrev Found : ℕ → Verdict → Type 0
  Found i (Sound n) = ((j : ℕ) → i ≤ j → j < length hs → at j ≡ 0) × (n ≡ (walked start hs).count)
  Found i (Fault j k) = (i ≤ j) × (j < length hs) × (at j ≡ k) × (k ≡ 0 → ⊥) × ((m : ℕ) → i ≤ m → m < j → at m ≡ 0)

  later : (i : ℕ) (v : Verdict) → at i ≡ 0 → Found (suc i) v → Found i v
  later i (Sound n) e f = (λ j p q. go j p q (dec_lt i j), f.1)
    where
      go : (j : ℕ) → i ≤ j → j < length hs → Dec (i < j) → at j ≡ 0
      go j p q (yes l) = f.0 j (omega arith) q
      go j p q (no l) = let s : i ≡ j = omega arith in subst (λ (x : ℕ). at x ≡ 0) s e
  later i (Fault j k) e f = (omega (arith, f.0), f.1, f.2, f.3, λ m p q. go m p q (dec_lt i m))
    where
      go : (m : ℕ) → i ≤ m → m < j → Dec (i < m) → at m ≡ 0
      go m p q (yes l) = f.4 m (omega arith) q
      go m p q (no l) = let s : i ≡ m = omega arith in subst (λ (x : ℕ). at x ≡ 0) s e

  abbrev FoundFrom : List Heard → List Heard → Type 0
  FoundFrom above rest = Found (length above) (verdict_from (value_of hs) above (walked start above) (length above) rest)

  module _ (above : List Heard) (x : Heard) (rest : List Heard) (e : hs ≡ above ++ (x ∷ rest)) where
    abbrev number : ℕ
    number = number_of (value_of hs) above (walked start above) x

    here : at (length above) ≡ number
    here =
        let t : take (length above) hs ≡ above = ap (take (length above)) e ∙ take-append_seam above (x ∷ rest) in
        let g : get_or hs (length above) (says none none false) ≡ x = ap (λ (l : List Heard). get_or l (length above) (says none none false)) e ∙ get_or-append_seam above x rest (says none none false) in
        rw (t, g)

    inside : length above < length hs
    inside = let n : length hs ≡ length above + suc (length rest) = ap length e ∙ length-append above (x ∷ rest) in omega arith

    abbrev more : Verdict
    more = verdict_from (value_of hs) (above ++ (x ∷ [])) (step (walked start above) x) (suc (length above)) rest

    again : FoundFrom (above ++ (x ∷ [])) rest → Found (suc (length above)) more
    again f =
        let n : length (above ++ (x ∷ [])) ≡ suc (length above) = length-append above (x ∷ []) ∙ omega arith in
        let v : walked start (above ++ (x ∷ [])) ≡ step (walked start above) x = walked_append start above (x ∷ []) in
        subst (λ (m : ℕ). Found m (verdict_from (value_of hs) (above ++ (x ∷ [])) (step (walked start above) x) m rest)) n
        (subst (λ (u : Walk). Found (length (above ++ (x ∷ []))) (verdict_from (value_of hs) (above ++ (x ∷ [])) u (length (above ++ (x ∷ []))) rest)) v f)

    by_number_lem : (t : Bool) → eqb number 0 ≡ t → FoundFrom (above ++ (x ∷ [])) rest → Found (length above) (pick t more (Fault (length above) number))
    by_number_lem true p f = later (length above) more (here ∙ eqb-true number 0 p) (again f)
    by_number_lem false p f = (omega arith, inside, here, eqb-false number 0 p, λ m q r. absurd (omega arith))

  found : (above rest : List Heard) → hs ≡ above ++ rest → FoundFrom above rest
  found above [] e =
      let s : above ≡ hs = sym (e ∙ append-nil above) in
      let n : length above ≡ length hs = ap length s in
      (λ j p q. absurd (omega arith), ap (λ (l : List Heard). (walked start l).count) s)
  found above (x ∷ rest) e =
      by_number_lem above x rest e (eqb (number above x rest e) 0) refl (found (above ++ (x ∷ [])) rest (e ∙ sym (append_assoc above (x ∷ []) rest)))

  judged : (v : Verdict) → Found 0 v → Judges hs v
  judged (Sound n) f = (λ j m l b. clean j m (f.0 j (omega arith) l) b, f.1)
  judged (Fault i k) f =
      record {
        inside = f.1;
        there = subst (λ (x : ℕ). broken hs i x ≡ true) f.2 (faulty i (λ z. f.3 (sym f.2 ∙ z)));
        line = λ j m l b. go j m b (dec_lt j i);
        number = λ m b. let n = least i m b in omega (arith, f.2);
      }
    where
      go : (j m : ℕ) → broken hs j m ≡ true → Dec (j < i) → i ≤ j
      go j m b (yes p) = absurd (clean j m (f.4 j (omega arith) p) b)
      go j m b (no p) = omega arith

  pub judges : Judges hs (verdict hs)
  unfolding verdict
  judges = judged (verdict hs) (found [] hs refl)

  pub one : (v u : Verdict) → Judges hs v → Judges hs u → v ≡ u
  one (Sound n) (Sound m) f g = ap Sound (f.1 ∙ sym g.1)
  one (Sound n) (Fault j m) f g = absurd (f.0 j m g.inside g.there)
  one (Fault i k) (Sound m) f g = absurd (g.0 i k f.inside f.there)
  one (Fault i k) (Fault j m) f g =
      let p = f.line j m g.inside g.there in
      let q = g.line i k f.inside f.there in
      let e : i ≡ j = omega arith in
      let a = f.number m (subst (λ (x : ℕ). broken hs x m ≡ true) (sym e) g.there) in
      let b = g.number k (subst (λ (x : ℕ). broken hs x k ≡ true) e f.there) in
      let d : k ≡ m = omega arith in
      ap₂ Fault e d
