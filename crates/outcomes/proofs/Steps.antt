-- Two steps of one iterator are seen as one.
use mathlib.Core.Path.{◌≡◌, sym, ap, ◌∙◌, subst}
use mathlib.Core.List.{List, [], ◌∷◌}
use Prim.Native.Nat.{ℕ, ◌+◌}
use native.Mathlib.Omega.{arith}
use lib.ListN.{length, get_or, drop}
use denote.Ref.{Bor}
use Rattle.std.specs.Prelude.{Option, None, Some, IfSome, unwrap_or, option_to_list}
use Rattle.std.specs.Iterator.{YieldsFirst}
use Rattle.word.specs.Bytes.{words}
use Rattle.isa.specs.Cuts.{Gives, GivesInstruction, program_of, next_at}
use Rattle.isa.specs.Program.{nowhere, spots, instruction_at, following}
use Rattle.isa.specs.Walk.{spots_left}
use Rattle.isa.specs.declared.Place.{Place}
use Rattle.isa.specs.declared.Spot.{Spot}
use Rattle.isa.specs.declared.cuts.Cuts.{Cuts}
use Rattle.isa.specs.declared.walk.Walk.{Walk}
use Rattle.isa.proofs.Instructions.{start_inside}
use Rattle.lines.specs.Lines.{newline}
use Rattle.lines.proofs.Firsts.{cut_of}
use Rattle.source.specs.Each.{Gives as GivesAt, GivesLine}
use Rattle.source.specs.Grammar.{lines_of}
use Rattle.source.specs.Reader.{hear}
use Rattle.source.specs.Seek.{heard_in, lines_from}
use Rattle.source.specs.declared.each_line.Lines.{Lines}
use Rattle.source.specs.declared.reading.ReadLine.{ReadLine}
use Rattle.outcomes.specs.Steps.{isa_walk_next, isa_cuts_next, source_lines_next}
use Rattle.outcomes.proofs.States.{place_is}

-- the first of what is left, and the others
pub walk_is : (self : Walk) (r s : Option Spot) (t u : Walk) → YieldsFirst spots_left self r t → YieldsFirst spots_left self s u
    → isa_walk_next (record { result = r; self = t }) ≡ isa_walk_next (record { result = s; self = u })
walk_is self None None t u p q = λ i. record { spot = None; left = (p.1 ∙ sym q.1) i }
walk_is self None (Some y) t u p q = absurd (omega (arith, ap length (sym p.0 ∙ q)))
walk_is self (Some x) None t u p q = absurd (omega (arith, ap length (sym q.0 ∙ p)))
walk_is self (Some x) (Some y) t u p q =
    let e : x ∷ spots_left t ≡ y ∷ spots_left u = sym p ∙ q in
    λ i. record { spot = Some (get_or (e i) 0 nowhere); left = drop 1 (e i) }

-- both stand at the place of the one before them
cut_is : (self : Cuts) (x y : Place × (Bor (List ℕ))) (t u : Cuts) → Gives self x.0 x.1.now t → Gives self y.0 y.1.now u
    → isa_cuts_next (record { result = Some x; self = t }) ≡ isa_cuts_next (record { result = Some y; self = u })
cut_is self x y t u p q =
    let place : x.0 ≡ y.0 = place_is (p.place ∙ sym q.place) in
    let program = words (program_of self) in
    let cut : spots (words x.1.now) ≡ spots (words y.1.now) = p.syllables ∙ ap (λ (j : Place). instruction_at program j.0) place ∙ sym q.syllables in
    let next : next_at t ≡ next_at u = p.next ∙ ap (λ (j : Place). following program j.0) place ∙ sym q.next in
    λ i. Some (record { place = place i; spots = cut i; program = (p.same ∙ sym q.same) i; next = next i })

pub cuts_is : (self : Cuts) (r s : Option (Place × (Bor (List ℕ)))) (t u : Cuts) → GivesInstruction self r t → GivesInstruction self s u
    → isa_cuts_next (record { result = r; self = t }) ≡ isa_cuts_next (record { result = s; self = u })
cuts_is self None None t u p q = λ i. None
cuts_is self None (Some y) t u p q = absurd (omega (arith, p, q.place, start_inside (words (program_of self)) y.0.0 q.start))
cuts_is self (Some x) None t u p q = absurd (omega (arith, q, p.place, start_inside (words (program_of self)) x.0.0 p.start))
cuts_is self (Some x) (Some y) t u p q = cut_is self x y t u p q

-- there is a line from any place on, so who has none left has no place
next_is : (text : List ℕ) (m n : Option ℕ) (k : ℕ) → IfSome m (λ at. at ≡ k) → IfSome n (λ at. at ≡ k) → lines_from text m ≡ lines_from text n → m ≡ n
next_is text None None k a b e = λ i. None
next_is text None (Some y) k a b e = absurd (omega (arith, ap length (e ∙ (cut_of newline (drop y text)).are)))
next_is text (Some x) None k a b e = absurd (omega (arith, ap length (sym e ∙ (cut_of newline (drop x text)).are)))
next_is text (Some x) (Some y) k a b e = ap Some (a ∙ sym b)

line_is : (self : Lines) (x y : ℕ × ReadLine) (t u : Lines) → GivesAt self x.0 x.1 t → GivesAt self y.0 y.1 u
    → source_lines_next (record { result = Some x; self = t }) ≡ source_lines_next (record { result = Some y; self = u })
line_is self x y t u p q =
    let place : x.0 ≡ y.0 = ap (λ (o : Option ℕ). unwrap_or o 0) (sym p.place ∙ q.place) in
    let lines = sym p.lines ∙ ap (λ at. lines_of (drop at self.text.now)) place ∙ q.lines in
    let bytes : x.1.bytes.now ≡ y.1.bytes.now = ap (λ (l : List (List ℕ)). get_or l 0 []) lines in
    let text : t.text.now ≡ u.text.now = p.text ∙ sym q.text in
    let left : lines_from t.text.now t.next ≡ lines_from u.text.now u.next = ap (λ (l : List (List ℕ)). drop 1 l) lines in
    let says : heard_in x.1.bytes.now x.1.line ≡ heard_in y.1.bytes.now y.1.line = p.heard ∙ ap hear bytes ∙ sym q.heard in
    let behind : x.0 + length x.1.bytes.now + 1 ≡ y.0 + length y.1.bytes.now + 1 = λ i. place i + length (bytes i) + 1 in
    let next : t.next ≡ u.next = next_is u.text.now t.next u.next _ (subst (λ k. IfSome t.next (λ at. at ≡ k)) behind p.next) q.next
    (ap (λ (s : List ℕ). lines_from s t.next) (sym text) ∙ left) in
    λ i. Some (record { place = place i; bytes = bytes i; says = says i; text = text i; left = left i; next = next i })

pub lines_is : (self : Lines) (r s : Option (ℕ × ReadLine)) (t u : Lines) → GivesLine self r t → GivesLine self s u
    → source_lines_next (record { result = r; self = t }) ≡ source_lines_next (record { result = s; self = u })
lines_is self None None t u p q = λ i. None
lines_is self None (Some y) t u p q = absurd (omega (arith, ap (λ (o : Option ℕ). length (option_to_list o)) (sym p ∙ q.place)))
lines_is self (Some x) None t u p q = absurd (omega (arith, ap (λ (o : Option ℕ). length (option_to_list o)) (sym q ∙ p.place)))
lines_is self (Some x) (Some y) t u p q = line_is self x y t u p q
