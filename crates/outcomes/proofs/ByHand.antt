-- The promises that no equation settles by itself, each by its own reason.
use mathlib.Core.Path.{◌≡◌, refl, sym, ap, ◌∙◌}
use mathlib.Core.Logic.{⊎_elim}
use mathlib.Core.Bool.{Bool, true, false}
use mathlib.Core.List.{List, [], ◌∷◌, ◌++◌, map}
use Prim.Native.Nat.{ℕ, ◌+◌, ◌^◌, ◌≤◌, ◌<◌}
use native.Mathlib.Nat.{eq-or-lt_of_le}
use native.Mathlib.Omega.{arith}
use lib.ListN.{length, get_or, set, take}
use lib.Seq.{length-take-le}
use Rattle.std.proofs.lemmas.List.{ext_get_or}
use Rattle.word.specs.Bytes.{words}
use Rattle.vliw.specs.Run.{run}
use Rattle.vliw.specs.Machine.{in_order, step}
use Rattle.isa.specs.Decode.{decode}
use Rattle.isa.specs.Program.{spots, operation, following, is_start}
use Rattle.isa.specs.Touch.{nexts, listed}
use Rattle.isa.specs.Cuts.{GivesInstruction}
use Rattle.isa.specs.Walk.{spots_left}
use Rattle.isa.specs.declared.Count.{Count}
use Rattle.isa.specs.declared.Nexts.{Nexts}
use Rattle.isa.specs.declared.Nexts.TheVariants.{Nowhere, One, Two}
use Rattle.isa.specs.declared.Op.{Op}
use Rattle.isa.specs.declared.Place.{Place}
use Rattle.isa.specs.declared.Spot.{Spot}
use Rattle.isa.specs.declared.Table.{Table}
use Rattle.isa.specs.declared.cuts.Cuts.{Cuts}
use Rattle.isa.specs.declared.walk.Walk.{Walk as Walks}
use Rattle.reach.specs.declared.Near.{Near}
use Rattle.reach.specs.Near.{Reaches}
use Rattle.reach.specs.Nexts.{nexts_at}
use Rattle.reach.proofs.Once.{one_list}
use Rattle.schedule.specs.Rule.{Verdict, Says}
use Rattle.schedule.specs.Answer.{Checks}
use Rattle.schedule.proofs.Once.{one_verdict, one_outcome}
use Rattle.source.specs.Grammar.{lines_of}
use Rattle.source.specs.Walk.{refused, step as step_by}
use Rattle.source.specs.Seek.{Cut, heard_in, walk_of, operates}
use Rattle.source.specs.Each.{GivesLine}
use Rattle.source.specs.declared.each_line.Lines.{Lines}
use Rattle.source.specs.declared.reading.Line.{Line}
use Rattle.source.specs.declared.reading.ReadLine.{ReadLine}
use Rattle.source.specs.declared.walking.Walk.{Walk}
use denote.Ref.{Bor}
use Rattle.std.specs.Prelude.{Option, Result, Ok, Err, OnErr, ⊤}
use Rattle.std.specs.Iterator.{YieldsFirst}
use Rattle.lines.specs.Lines.{newline, pieces, first_line, from_first}
use Rattle.lines.specs.Items.{reading_in, reading_of}
use Rattle.lines.specs.declared.reading.BadLine.{BadLine}
use Rattle.lines.specs.declared.reading.Text.{Text as Reading}
use Rattle.source.specs.Reader.{hear_all}
use Rattle.evaluation.specs.declared.labels.Labels.{Labels}
use Rattle.assembler.specs.Faults.{Verdict as Text, Sound, Fault, verdict}
use Rattle.assembler.specs.Passes.{number_of_wrong, verdict_in, Within}
use Rattle.assembler.specs.declared.judging.Wrong.{Wrong}
use Rattle.assembler.specs.declared.judging.Wrong.TheVariants as wrong
use Rattle.assembler.specs.declared.judging.LowestFault.{LowestFault}
use Rattle.machine.specs.Image.{place_in, registers_in, link_in}
use Rattle.machine.specs.Link.{memory_of, change}
use Rattle.machine.specs.Instruction.{instruction_of}
use Rattle.vliw.specs.Cell.{at, still}
use Rattle.machine.specs.State.{cell_of, registers_of, Sized}
use Rattle.machine.specs.declared.Cell.{Cell as Kept}
use Rattle.machine.proofs.Arrays.{registers_of_length}
use Rattle.machine.specs.declared.State.{State}
use Rattle.ticks.specs.Ticks.{views, latest, ready_ticks}
use Rattle.ticks.specs.declared.Registers.{Registers}
use Rattle.ticks.specs.declared.Made.{Made}
use Rattle.memory.specs.declared.Store.{Store}
use Rattle.gather.specs.declared.Scratch.{Scratch}
use Rattle.loader.specs.declared.Answer.{Answer}
use Rattle.run.specs.Loop.{Returned}
use Rattle.run.specs.declared.Left.{Left}
use Rattle.text.specs.Rows.{field, fields, answer_row}
use Rattle.arrayvec.specs.ArrayVec.{ArrayVec, array_vec_len}
use Rattle.outcomes.specs.OneOutcome.{OneOutcome, OneOutcomeSeen}
use Rattle.outcomes.specs.Steps.{isa_walk_next, isa_cuts_next, source_lines_next}
use Rattle.outcomes.proofs.States.{place_is, state_is}
use Rattle.outcomes.proofs.Steps.{walk_is, cuts_is, lines_is}

-- nothing of it goes by the cluster, so take one
pub isa_decode_still_one : (s : ℕ) → OneOutcome (λ (r : Op). ((c : ℕ) → r ≡ decode c s))
isa_decode_still_one s a b p q = p 0 ∙ sym (q 0)

-- the nexts are the places that they list
listed_is : (a b : Nexts) → listed a ≡ listed b → a ≡ b
listed_is Nowhere Nowhere e = refl
listed_is Nowhere (One j) e = absurd (omega (arith, ap length e))
listed_is Nowhere (Two j l) e = absurd (omega (arith, ap length e))
listed_is (One i) Nowhere e = absurd (omega (arith, ap length e))
listed_is (One i) (One j) e = ap One (place_is (ap (λ (l : List ℕ). get_or l 0 0) e))
listed_is (One i) (Two j l) e = absurd (omega (arith, ap length e))
listed_is (Two i k) Nowhere e = absurd (omega (arith, ap length e))
listed_is (Two i k) (One j) e = absurd (omega (arith, ap length e))
listed_is (Two i k) (Two j l) e =
    let first : i ≡ j = place_is (ap (λ (q : List ℕ). get_or q 0 0) e) in
    let second : k ≡ l = place_is (ap (λ (q : List ℕ). get_or q 1 0) e) in
    λ x. Two (first x) (second x)

pub isa_nexts_one : (stretch : List ℕ) (j : Place) → OneOutcome (λ (r : Nexts). listed r ≡ nexts j.0 (map operation (spots (words stretch))))
isa_nexts_one stretch j a b p q = listed_is a b (p ∙ sym q)

-- a place is its number
pub isa_following_one : (program : List ℕ) (at : Place) → OneOutcome (λ (r : Place). r.0 ≡ following (words program) at.0)
isa_following_one program at a b p q = place_is (p ∙ sym q)

-- the lowest producer, and its lowest consumer
pub schedule_check_one : (table : Table) (program : List ℕ) → OneOutcome (λ (r : Verdict). Says table.delays (words program) r)
schedule_check_one table program = one_verdict table.delays (words program)

-- the first line, as it is cut off
head_of : List (List ℕ) → List ℕ
head_of [] = []
head_of (l ∷ ls) = l

cut_at : (s : List ℕ) (n : ℕ) → Cut s n → n ≡ length (head_of (lines_of s))
unfolding head_of
cut_at s n c =
    let e : head_of (lines_of s) ≡ take n s = ⊎_elim (λ k. ap head_of (c.last k)) (λ k. ap head_of (c.inner k)) (eq-or-lt_of_le c.inside) in
    sym (ap length e ∙ length-take-le n s c.inside)

pub source_line_length_one : (s : List ℕ) → OneOutcome (λ (n : ℕ). Cut s n)
source_line_length_one s a b p q = cut_at s a p ∙ sym (cut_at s b q)

-- nothing of it goes by the line's bytes, so take none
pub source_is_refused_one : (w : Walk) (l : Line) → OneOutcome (λ (r : Bool). ((line : List ℕ) → r ≡ refused (walk_of w) (heard_in line l)))
source_is_refused_one w l a b p q = p [] ∙ sym (q [])

-- the code's walk is the definition's, field by field
pub source_step_one : (w : Walk) (l : Line)
    → OneOutcome (λ (r : Walk). ((line : List ℕ) → walk_of r ≡ step_by (walk_of w) (heard_in line l)) × (w.count ≤ r.count) × (r.count ≤ w.count + 4)
    × (operates l ≡ false → r.count ≡ w.count))
source_step_one w l a b p q =
    let e : walk_of a ≡ walk_of b = p.0 [] ∙ sym (q.0 []) in
    λ i. record { count = (e i).count; opened = (e i).opened }

-- the code's verdict is the definition's, number by number
wrong_is : (a b : Wrong) → number_of_wrong a ≡ number_of_wrong b → a ≡ b
wrong_is wrong.Line wrong.Line e = refl
wrong_is wrong.Line wrong.Label e = absurd (omega arith)
wrong_is wrong.Line wrong.Value e = absurd (omega arith)
wrong_is wrong.Label wrong.Line e = absurd (omega arith)
wrong_is wrong.Label wrong.Label e = refl
wrong_is wrong.Label wrong.Value e = absurd (omega arith)
wrong_is wrong.Value wrong.Line e = absurd (omega arith)
wrong_is wrong.Value wrong.Label e = absurd (omega arith)
wrong_is wrong.Value wrong.Value e = refl

-- syllables; or the number, and the line
numbers_of : Text → List ℕ
numbers_of (Sound n) = n ∷ []
numbers_of (Fault i k) = k ∷ i ∷ []

verdict_is : (a b : Result ℕ LowestFault) → verdict_in a ≡ verdict_in b → a ≡ b
unfolding numbers_of
verdict_is (Ok n) (Ok m) e = ap Ok (ap (λ v. get_or (numbers_of v) 0 0) e)
verdict_is (Ok n) (Err g) e = absurd (omega (arith, ap (λ v. length (numbers_of v)) e))
verdict_is (Err f) (Ok m) e = absurd (omega (arith, ap (λ v. length (numbers_of v)) e))
verdict_is (Err f) (Err g) e =
    let line : f.line ≡ g.line = ap (λ v. get_or (numbers_of v) 1 0) e in
    let is_wrong : f.wrong ≡ g.wrong = wrong_is f.wrong g.wrong (ap (λ v. get_or (numbers_of v) 0 0) e) in
    λ i. Err (record { line = line i; wrong = is_wrong i })

pub assembler_judge_one : (labels : Labels)
    → OneOutcome (λ (r : Result ℕ LowestFault). (verdict_in r ≡ verdict (hear_all labels.text.now)) × Within (length labels.text.now) (verdict_in r))
assembler_judge_one labels a b p q = verdict_is a b (p.0 ∙ sym q.0)

-- a state is its place, its registers and its link
pub machine_read_one : (image : List ℕ)
    → OneOutcome (λ (r : State). Sized r × ((r.place.0 ≡ place_in image) × (registers_of r ≡ registers_in image) × (r.link.0 ≡ link_in image)))
machine_read_one image a b p q = state_is p.0 q.0 (p.1.1 ∙ sym q.1.1) (p.1.0 ∙ sym q.1.0) (p.1.2 ∙ sym q.1.2)

pub machine_state_put_one : (self : State) (r : ℕ) (c : Kept)
    → OneOutcome (λ (s : State). Sized s × ((s.place ≡ self.place) × (s.link ≡ self.link)) × (registers_of s ≡ set (registers_of self) r (cell_of c)))
machine_state_put_one self r c a b p q =
    state_is p.0 q.0 (p.2 ∙ sym q.2) (ap (λ (x : Place). x.0) (p.1.0 ∙ sym q.1.0)) (ap (λ (x : Place). x.0) (p.1.1 ∙ sym q.1.1))

pub machine_state_still_one : (place link : Place)
    → OneOutcome (λ (s : State). Sized s × ((s.place ≡ place) × (s.link ≡ link)) × ((r : ℕ) → r < 288 → at (registers_of s) r ≡ still))
machine_state_still_one place link a b p q =
    let n : length (registers_of a) ≡ 288 = registers_of_length p.0 in
    let same : registers_of a ≡ registers_of b =
    ext_get_or still (registers_of a) (registers_of b) (n ∙ sym (registers_of_length q.0)) (λ r k. p.2 r (omega (arith, k, n)) ∙ sym (q.2 r (omega (arith, k, n)))) in
    state_is p.0 q.0 same (ap (λ (x : Place). x.0) (p.1.0 ∙ sym q.1.0)) (ap (λ (x : Place). x.0) (p.1.1 ∙ sym q.1.1))

-- a register is its four numbers
pub machine_state_register_one : (self : State) (r : ℕ) → OneOutcome (λ (s : Kept). cell_of s ≡ at (registers_of self) r)
machine_state_register_one self r a b p q =
    let e : cell_of a ≡ cell_of b = p ∙ sym q in
    λ i. record { value = (e i).value; waiting = (e i).waiting; busy = (e i).busy; landing = (e i).landing }

pub ticks_registers_leave_one : (self : Registers) (t : Count) (place link : Place)
    → OneOutcome (λ (s : State). Sized s × ((s.place ≡ place) × (s.link ≡ link)) × (registers_of s ≡ views t.0 self.all))
ticks_registers_leave_one self t place link a b p q =
    state_is p.0 q.0 (p.2 ∙ sym q.2) (ap (λ (x : Place). x.0) (p.1.0 ∙ sym q.1.0)) (ap (λ (x : Place). x.0) (p.1.1 ∙ sym q.1.1))

-- a count is its number
pub ticks_registers_free_from_one : (self : Registers) → OneOutcome (λ (r : Count). r.0 ≡ latest 0 (ready_ticks self.all))
ticks_registers_free_from_one self a b p q = λ i. record { 0 = (p ∙ sym q) i }

-- scratch is its two lists
scratch_is : {a b : Scratch} → a.results ≡ b.results → a.stores ≡ b.stores → a ≡ b
scratch_is e f = λ i. record { results = e i; stores = f i }

pub gather_scratch_new_one : OneOutcome (λ (r : Scratch). (r.results ≡ []) × (r.stores ≡ []))
gather_scratch_new_one a b p q = scratch_is (p.0 ∙ sym q.0) (p.1 ∙ sym q.1)

pub gather_scratch_note_one : (self : Scratch) (m : Made) → OneOutcome (λ (s : Scratch). (s.results ≡ self.results ++ m ∷ []) × (s.stores ≡ self.stores))
gather_scratch_note_one self m a b p q = scratch_is (p.0 ∙ sym q.0) (p.1 ∙ sym q.1)

pub gather_scratch_note_store_one : (self : Scratch) (s : Store)
    → OneOutcome (λ (t : Scratch). (t.stores ≡ self.stores ++ s ∷ []) × (t.results ≡ self.results))
gather_scratch_note_store_one self s a b p q = scratch_is (p.1 ∙ sym q.1) (p.0 ∙ sym q.0)

-- what the machine's run leaves is what is returned
pub run_run_one : (table : Table) (program memory landing : List ℕ) (n : Count) (s : State)
    → OneOutcome (λ (o : record { result : Left; memory : List ℕ }). ((is_start (words program) o.result.state.place.0 ≡ true) × (o.result.state.link.0 < 2 ^ 32))
    × Returned (run (step change (instruction_of table.delays (words program))) n.0
    (record { place = s.place.0; registers = registers_of s; memory = memory_of memory s.link.0; landing = landing; orders = in_order })) o.result o.memory)
run_run_one table program memory landing n s a b (_, p) (_, q) =
    let state : a.result.state ≡ b.result.state =
    state_is p.sized q.sized (sym p.registers ∙ q.registers) (sym p.place ∙ q.place) (sym p.link ∙ q.link) in
    λ i. record {
      result = record { ending = (sym p.ending ∙ q.ending) i; count = record { 0 = (sym p.count ∙ q.count) i }; state = state i };
      memory = (sym p.memory ∙ q.memory) i;
    }

pub sandbox_vex_check_one : (table program room : List ℕ)
    → OneOutcome (λ (o : record { result : ℕ; room : List ℕ }). Checks table program room (record { result = o.result; room = o.room }))
sandbox_vex_check_one table program room a b p q =
    let e = one_outcome table program room _ _ p q in
    λ i. record { result = (e i).result; room = (e i).room }

-- a text that was read, or a line that is bad and a text as it was
read_is : (r s : Result ⊤ BadLine) (into t u : Reading) → reading_in r t ≡ reading_in s u → OnErr r (t ≡ into) → OnErr s (u ≡ into) → (r ≡ s) × (t ≡ u)
read_is (Ok x) (Ok y) into t u e f g = (refl, cc)
read_is (Ok x) (Err d) into t u e f g = cc
read_is (Err c) (Ok y) into t u e f g = cc
read_is (Err c) (Err d) into t u e f g =
    let h : c ≡ d = cc in
    (λ i. Err (h i), f ∙ sym g)

pub lines_read_into_one : (text : List ℕ) (into : Reading)
    → OneOutcome (λ (o : record { result : Result ⊤ BadLine; into : Reading }).
    (reading_in o.result o.into ≡ reading_of (from_first (first_line 2 (pieces newline text)))) × OnErr o.result (o.into ≡ into))
lines_read_into_one text into a b p q =
    let e = read_is a.result b.result into a.into b.into (p.0 ∙ sym q.0) p.1 q.1 in
    λ i. record { result = e.0 i; into = e.1 i }

-- a vector is its elements
pub text_push_field_one : (N : ℕ) (out : ArrayVec ℕ) (digits v after : ℕ)
    → OneOutcome (λ (o : ArrayVec ℕ). (o.items ≡ out.items ++ field digits v after) × (array_vec_len o ≡ array_vec_len out + digits + 1))
text_push_field_one N out digits v after a b p q = λ i. record { items = (p.0 ∙ sym q.0) i }

pub text_push_fields_one : (N : ℕ) (out : ArrayVec ℕ) (x digits y z : ℕ)
    → OneOutcome (λ (o : ArrayVec ℕ). (o.items ≡ out.items ++ fields x digits y z) × (array_vec_len o ≡ array_vec_len out + digits + 13))
text_push_fields_one N out x digits y z a b p q = λ i. record { items = (p.0 ∙ sym q.0) i }

pub text_push_answer_one : (N : ℕ) (out : ArrayVec ℕ) (a : Answer)
    → OneOutcome (λ (o : ArrayVec ℕ). (o.items ≡ out.items ++ answer_row a) × (array_vec_len o ≡ array_vec_len out + 21))
text_push_answer_one N out x a b p q = λ i. record { items = (p.0 ∙ sym q.0) i }

pub reach_reach_one : (program : List ℕ) (p : Place) (most : ℕ) (near : ArrayVec Near)
    → OneOutcome (λ (o : ArrayVec Near). Reaches (nexts_at (words program)) p.0 most o.items)
reach_reach_one program p most near a b h k = λ i. record { items = one_list (nexts_at (words program)) p.0 most a.items b.items h k i }

-- a step is what comes and what is left
pub isa_walk_next_one : (self : Walks)
    → OneOutcomeSeen isa_walk_next (λ (o : record { result : Option Spot; self : Walks }). YieldsFirst spots_left self o.result o.self)
isa_walk_next_one self a b p q = walk_is self a.result b.result a.self b.self p q

pub isa_cuts_next_one : (self : Cuts)
    → OneOutcomeSeen isa_cuts_next (λ (o : record { result : Option (Place × (Bor (List ℕ))); self : Cuts }). GivesInstruction self o.result o.self)
isa_cuts_next_one self a b p q = cuts_is self a.result b.result a.self b.self p q

pub source_lines_next_one : (self : Lines)
    → OneOutcomeSeen source_lines_next (λ (o : record { result : Option (ℕ × ReadLine); self : Lines }). GivesLine self o.result o.self)
source_lines_next_one self a b p q = lines_is self a.result b.result a.self b.self p q
