-- Laws of a text's lines, one after another.
use mathlib.Core.Path.{◌≡◌, refl, sym, subst, ap, ◌∙◌}
use mathlib.Core.Bool.{Bool, true, false, true≢false}
use mathlib.Core.List.{List, [], ◌∷◌}
use Prim.Native.Nat.{ℕ, suc, ◌+◌, ◌*◌, ◌-◌, ◌≤◌, ◌<◌}
use native.Mathlib.Omega.{arith}
use borrow.Author.Tests.{eq-eqb}
use lib.ListN.{length, take, drop, length-drop}
use lib.Seq.{drop-drop, length-take-le}
use Rattle.std.specs.Prelude.{Option, None, Some, IfSome, is_some}
use Rattle.operations.specs.declared.Operation.{Operation}
use Rattle.source.specs.Grammar.{lines_of}
use Rattle.source.specs.Heard.{Heard}
use Rattle.source.specs.Walk.{Walk, step}
use Rattle.source.specs.Labels.{next}
use Rattle.source.specs.Reader.{hear}
use Rattle.source.specs.Seek.{Cut, heard_in, walk_of, lines_from, seek, operation_of, operates, OperationIn, Kept}
use Rattle.source.specs.Each.{left, Gives}
use Rattle.source.specs.declared.reading.Line.{Line}
use Rattle.source.specs.declared.reading.ReadLine.{ReadLine}
use Rattle.source.specs.declared.each_line.Lines.{Lines}
use Rattle.source.specs.declared.seeking.Given.{Given}
use Rattle.source.specs.declared.walking.Walk.{Walk as Walked}

-- no instruction is open, so the next one begins here
pub next_shut : (w : Walk) (hs : List Heard) → w.opened ≡ 0 → next w hs ≡ w.count
next_shut w [] e = refl
next_shut w (h ∷ hs) e = rw (eq-eqb w.opened 0 e)

-- the line at a place, and those behind its newline
module _ (text : List ℕ) (at n : ℕ) (cut : Cut (drop at text) n) where
  pub first_last : n ≡ length (drop at text) → lines_of (drop at text) ≡ take n (drop at text) ∷ lines_from text None
  first_last e = cut.last e

  pub first_inner : n < length (drop at text) → lines_of (drop at text) ≡ take n (drop at text) ∷ lines_from text (Some (at + n + 1))
  first_inner e = let k : at + suc n ≡ at + n + 1 = omega arith in rw (← k, ← drop-drop (suc n) at text) (cut.inner e)

  pub within : at ≤ length text → {line : List ℕ} → line ≡ take n (drop at text) → (length line ≡ n) × (at + length line ≤ length text)
  within h e =
      let d : length (drop at text) ≡ length text - at = length-drop at text in
      let l : length (take n (drop at text)) ≡ n = length-take-le n (drop at text) cut.inside in
      rw e (l, omega (arith, l, d, cut.inside))

-- an operation takes two bytes
pub short : (line : List ℕ) (l : Line) → Kept line l → operates l ≡ true → 2 ≤ length line
short line l k = go (operation_of l.says) k.1
  where
    go : (o : Option Operation) → IfSome o (OperationIn line) → is_some o ≡ true → 2 ≤ length line
    go None s f = absurd (true≢false (sym f))
    go (Some o) s f = s.4

-- and adds at most four syllables
grown : (operates : Bool) (at n : ℕ) {count more : ℕ} → count ≤ at * 2 → more ≤ count + 4 → (operates ≡ false → more ≡ count) → (operates ≡ true → 2 ≤ n)
    → more ≤ (at + n) * 2
grown true at n a b c d = omega (arith, d refl)
grown false at n a b c d = omega (arith, c refl)

-- where a label is first given, from a place on
abbrev pub seek_from : Walk → List ℕ → Option ℕ → List ℕ → Option Given
seek_from w text None name = None
seek_from w text (Some at) name = seek w at (lines_of (drop at text)) name

module _ {s t : Lines} {at : ℕ} {l : ReadLine} (g : Gives s at l t) where
  pub left_here : left s ≡ l.bytes.now ∷ left t
  left_here = rw g.place g.lines

  pub lines_here : lines_of (drop at s.text.now) ≡ l.bytes.now ∷ lines_from s.text.now t.next
  lines_here = subst (λ (x : List ℕ). lines_of (drop at s.text.now) ≡ l.bytes.now ∷ lines_from x t.next) g.text g.lines

  -- the step that the code takes
  pub step_here : (v w : Walked) → ((line : List ℕ) → walk_of v ≡ step (walk_of w) (heard_in line l.line)) → walk_of v ≡ step (walk_of w) (hear l.bytes.now)
  step_here v w f = f l.bytes.now ∙ ap (step (walk_of w)) g.heard

  -- the syllables so far, of which there are at most two for each byte
  module _ {count : ℕ} (a : IfSome s.next (λ n. count ≤ n * 2)) where
    pub few : count ≤ at * 2
    few = subst (λ (o : Option ℕ). IfSome o (λ n. count ≤ n * 2)) g.place a

    pub few_more : {more : ℕ} → more ≤ count + 4 → (operates l.line ≡ false → more ≡ count) → more ≤ (at + length l.bytes.now) * 2
    few_more b c = grown (operates l.line) at (length l.bytes.now) few b c (short l.bytes.now l.line l.kept)

    pub few_next : {more : ℕ} → more ≤ count + 4 → (operates l.line ≡ false → more ≡ count) → IfSome t.next (λ n. more ≤ n * 2)
    few_next {more} b c = go t.next g.next
      where
        go : (o : Option ℕ) → IfSome o (λ n. n ≡ at + length l.bytes.now + 1) → IfSome o (λ n. more ≤ n * 2)
        go None e = tt
        go (Some n) e = omega (arith, few_more b c)
