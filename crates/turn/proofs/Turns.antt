-- Laws of one turn of the run's loop: how it ends from what the pass gathered.
use mathlib.Core.Path.{◌≡◌, refl, sym, ap, ◌∙◌}
use mathlib.Core.Logic.{◌≢◌, ⊎_elim}
use mathlib.Core.Bool.{Bool, true, false, ◌||◌, ◌&&◌, false≢true}
use mathlib.Core.List.{List, [], ◌∷◌, ◌++◌, map, Memᴰ}
use Prim.Native.Nat.{ℕ, zero, suc, ◌+◌, ◌/◌, ◌^◌, ◌≤◌, ◌<◌}
use native.Mathlib.Nat.{le_refl, le_step}
use native.Mathlib.Omega.{arith}
use lib.Dec.{ltb}
use lib.ListN.{length, drop}
use lib.Seq.{get_or-set_other}
use borrow.Author.Tests.{ltb-true, ltb-false, ne_eqb, not-true, not-false}
use Rattle.word.specs.Choice.{pick}
use Rattle.word.specs.Lists.{any, any_below}
use Rattle.word.specs.Bytes.{words}
use Rattle.word.proofs.Bytes.{words_length}
use Rattle.word.proofs.Choice.{by_test, or_false}
use Rattle.word.proofs.Lists.{any_false_in}
use Rattle.vliw.specs.Run.{ends}
use Rattle.vliw.specs.Cell.{Cell, Registers, still, at, puts, others}
use Rattle.vliw.specs.Machine.{Situation, Dest, Out, fault, go, writes, bytes_left, stores, step}
use Rattle.vliw.specs.declared.Ending.{Ending}
use Rattle.vliw.specs.declared.Ending.TheVariants.{Stopped, Faulted}
use Rattle.vliw.specs.declared.Fault.{Fault}
use Rattle.vliw.specs.declared.Fault.TheVariants.{InFlight, StoresClash, BadLink}
use Rattle.vliw.proofs.Flight.{arrives}
use Rattle.isa.specs.Program.{spots, is_start, instruction_at, following, operation, operations_at}
use Rattle.isa.specs.Touch.{dests}
use Rattle.isa.specs.declared.Op.{Op}
use Rattle.isa.specs.declared.Delays.{Delays}
use Rattle.isa.specs.declared.Count.{Count}
use Rattle.isa.specs.declared.Place.{Place}
use Rattle.isa.proofs.Instructions.{spots_length, start_inside, following_within}
use Rattle.isa.proofs.Results.{dests_have}
use Rattle.std.specs.Ordering.{is_lt, nat_cmp}
use Rattle.std.proofs.lemmas.Map.Keys.{ge_from_not_lt}
use Rattle.std.specs.Prelude.{Option, None, Some, Result, Ok, Err, ⊤}
use Rattle.memory.specs.Memory.{store, any_share}
use Rattle.memory.specs.declared.Store.{Store}
use Rattle.machine.specs.Link.{Memory, Change, storing, linking, change}
use Rattle.machine.specs.Instruction.{Fired, fire, result_values, stores_of, fault_of, Next, stops, next_by, goes_on, out_by, acts, instruction_of}
use Rattle.machine.specs.Instruction.{at as goes_to}
use Rattle.machine.proofs.Acts.{calls_by}
use Rattle.machine.proofs.Linking.{by_link, reads_by_link}
use Rattle.ticks.specs.Ticks.{register_at, views, Bank, Freed, dests_in, values_in, Clear}
use Rattle.ticks.specs.declared.Register.{Register}
use Rattle.ticks.proofs.Views.{views_aged, view_busy, view_late}
use Rattle.ticks.proofs.Results.{bytes_left_lem}
use Rattle.gather.specs.Gather.{op_busy, next_from, turn_in, Flying, named_late, op_late, fire_at, Lists, fired, Came, Gathered}
use Rattle.gather.specs.declared.Scratch.{Scratch}
use Rattle.gather.specs.declared.Seen.{Seen}
use Rattle.gather.specs.declared.Course.{Course}
use Rattle.gather.specs.declared.Course.TheVariants.{Open, Stop, Set, Call, Back}
use Rattle.gather.proofs.OnePass.{flies, has_every, next_from_lem}
use Rattle.gather.proofs.Passes.{gathered_views}
use Rattle.turn.specs.Turn.{situation_at, beside, ended_by, is_stop, links, is_lost, any_late, goal_of, link_after, halt_shared, halt_fault, halt_of, Runs, Running, Moved, Halted}
use Rattle.turn.specs.declared.Link.{Link}
use Rattle.turn.specs.declared.Point.{Point}
use Rattle.turn.proofs.Steps.{is_in_flight, step_busy, step_stop, step_lost, step_fault, step_shared, step_go}

-- ---- the pass over an instruction

-- a stretch ends where the instruction after it starts
pub end_follows : (l p : List ℕ) (i : ℕ) → spots (words l) ≡ instruction_at p i → i + length l / 4 ≡ following p i
end_follows l p i e = omega (arith, words_length l, spots_length (words l), ap length e)

module _ {d : Delays} {m : List ℕ} {s : Seen} {a : Scratch} where
  pub gathered : {t : ℕ} {p : List ℕ} {point : Point} {rs : List Register} (w : List ℕ) (j : ℕ) → Running t p point rs → spots w ≡ instruction_at p point.place.0 → j ≡ following p point.place.0
      → Gathered (op_late t rs) (fire_at rs) d m j (map operation (spots w)) s a
      → Gathered (op_busy (views t rs)) (fire (map (λ (c : Cell). c.value) (views t rs))) d m (following p point.place.0) (operations_at p point.place.0) s a
  gathered w j here e f k = gathered_views here.bank here.idle (rw (e, f) at k)

-- from tick `free` on no register is in flight, and register 0 never is
pub flying_before : {t : ℕ} {p : List ℕ} {point : Point} {rs : List Register} {flying : Bool} → Running t p point rs
    → flying ≡ is_lt (nat_cmp t point.free.0) → Flying flying t rs
flying_before {t} {point = point} {rs} here q =
    record {
      nothing = omega (arith, here.idle, view_busy t rs 0);
      others = λ e r.
          ⊎_elim (λ h. let b = ltb-true t (register_at rs r).ready h in absurd (omega (arith, here.freed r b, ge_from_not_lt t point.free.0 (sym q ∙ e))))
          (λ h. ltb-false t (register_at rs r).ready h) (by_test (ltb t (register_at rs r).ready));
    }

-- ---- register 0 is never in flight

dests_some : (d : Delays) (os : List Op) (e : Dest) → Memᴰ e (dests d os) → e.reg ≢ 0
dests_some d os = dests_have (λ r. r ≢ 0) os (λ o m. (λ n. n, λ n. n)) d

writes_idle : (ds : List Dest) (vs bs : List ℕ) (l : Registers) → ((e : Dest) → Memᴰ e ds → e.reg ≢ 0) → (at l 0).busy ≡ 0
    → (at (puts (writes ds vs bs) l) 0).busy ≡ 0
writes_idle [] vs bs l f h = h
writes_idle (d ∷ ds) [] bs l f h = h
writes_idle (d ∷ ds) (v ∷ vs) bs l f h =
    writes_idle ds vs (others bs) _ (λ e m. f e (Memᴰ.tail m))
    (rw (get_or-set_other l d.reg 0 _ still (λ e. f d (Memᴰ.head refl) (sym e))) h)

later_idle : (t : ℕ) (rs : List Register) → (at (views t rs) 0).busy ≡ 0 → (at (views (t + 1) rs) 0).busy ≡ 0
later_idle t rs h = rw (view_busy (t + 1) rs 0) (omega (arith, h, view_busy t rs 0))

-- ---- a test of every register

below_same : (f g : ℕ → Bool) (n : ℕ) → ((k : ℕ) → k < n → f k ≡ g k) → any_below f n ≡ any_below g n
below_same f g zero h = refl
below_same f g (suc n) h = rw (h n (le_refl (suc n)), below_same f g n (λ k b. h k (le_step b)))

-- ---- where a turn goes

-- what becomes of the link of an instruction that j follows
abbrev links_of : Course → ℕ → List Change
links_of Open j = []
links_of Stop j = []
links_of Set j = []
links_of Call j = linking j ∷ []
links_of Back j = []

link_left : (w : Course) (link : Link) (j : Place) (b : List ℕ) → stores change (links_of w j.0) (beside b link) ≡ beside b (link_after w link j)
link_left Open link j b = refl
link_left Stop link j b = refl
link_left Set link j b = refl
link_left Call link j b = refl
link_left Back link j b = refl

-- a stop reads none
stays : (w : Course) (late : Bool) → is_stop w ≡ true → links w && late ≡ false
stays Open late h = refl
stays Stop late h = refl
stays Set late h = refl
stays Call late h = absurd (false≢true h)
stays Back late h = absurd (false≢true h)

turn_stops : (w : Course) (q : Place) (x : Next) → is_stop w ≡ true → next_by (turn_in w q) x ≡ stops
turn_stops Open q x h = absurd (false≢true h)
turn_stops Stop q x h = refl
turn_stops Set q x h = absurd (false≢true h)
turn_stops Call q x h = absurd (false≢true h)
turn_stops Back q x h = absurd (false≢true h)

module _ (p : List ℕ) (link : Link) (linked : link.starts ≡ is_start p link.place.0) (m : List ℕ) (es : List Fired) (j : Place) where
  abbrev out : Course → Place → Out Change
  out w q = out_by (is_start p) j.0 (next_by (turn_in w q) (goes_to j.0)) (beside m link) es

  turn_lost : (w : Course) (q : Place) → is_lost w link ≡ true → out w q ≡ fault BadLink
  turn_lost Open q h = absurd (false≢true h)
  turn_lost Stop q h = absurd (false≢true h)
  turn_lost Set q h = absurd (false≢true h)
  turn_lost Call q h = absurd (false≢true h)
  turn_lost Back q h = rw (sym linked ∙ not-true _ h)

  turn_goes : (w : Course) (q : Place) → is_stop w ≡ false → is_lost w link ≡ false → out w q ≡ goes_on (links_of w j.0) (goal_of w q j link).0 m es
  turn_goes Open q h k = refl
  turn_goes Stop q h k = absurd (false≢true (sym h))
  turn_goes Set q h k = refl
  turn_goes Call q h k = refl
  turn_goes Back q h k = rw (sym linked ∙ not-false _ k)

-- it neither stops nor is lost
pub record Ahead (s : Seen) (link : Link) : Type 0 where
  goes : is_stop s.course ≡ false
  found : is_lost s.course link ≡ false

-- ---- how a turn ends

-- what `haltOf` says of what was gathered, when it halts and when it does not
pub data Halts (s : Seen) (late : Bool) (link : Link) (shared : Bool) : Result ⊤ Ending → Type 0 where
  in_flight : s.busy ≡ true → Halts s late link shared (Err (Faulted InFlight))
  stopped : s.busy ≡ false → is_stop s.course ≡ true → Halts s late link shared (Err Stopped)
  held_up : s.busy ≡ false → links s.course && late ≡ true → Halts s late link shared (Err (Faulted InFlight))
  lost : s.busy ≡ false → links s.course && late ≡ false → is_lost s.course link ≡ true → Halts s late link shared (Err (Faulted BadLink))
  faulted : {f : Fault} → s.busy ≡ false → links s.course && late ≡ false → Ahead s link → s.fault ≡ Some f → Halts s late link shared (Err (Faulted f))
  clashes : s.busy ≡ false → links s.course && late ≡ false → Ahead s link → s.fault ≡ None → shared ≡ true → Halts s late link shared (Err (Faulted StoresClash))
  goes_on_lem : s.busy ≡ false → links s.course && late ≡ false → Ahead s link → s.fault ≡ None → shared ≡ false → Halts s late link shared (Ok tt)

pub halts : (s : Seen) (late : Bool) (link : Link) (shared : Bool) → Halts s late link shared (halt_of s late link shared)
halts s late link shared = by s.busy refl (is_stop s.course) refl (links s.course && late) refl (is_lost s.course link) refl
  where
    last : s.busy ≡ false → links s.course && late ≡ false → Ahead s link → s.fault ≡ None → (b : Bool) → shared ≡ b → Halts s late link shared (halt_shared b)
    last e n h f true c = clashes e n h f c
    last e n h f false c = goes_on_lem e n h f c

    fault : s.busy ≡ false → links s.course && late ≡ false → Ahead s link → (f : Option Fault) → s.fault ≡ f → Halts s late link shared (halt_fault f shared)
    fault e n h None f = last e n h f shared refl
    fault e n h (Some g) f = faulted e n h f

    by : (b : Bool) → s.busy ≡ b → (w : Bool) → is_stop s.course ≡ w → (l : Bool) → links s.course && late ≡ l → (x : Bool) → is_lost s.course link ≡ x
        → Halts s late link shared
        (pick b (Err (Faulted InFlight)) (pick w (Err Stopped) (pick l (Err (Faulted InFlight)) (pick x (Err (Faulted BadLink)) (halt_fault s.fault shared)))))
    by true e w h l n x k = in_flight e
    by false e true h l n x k = stopped e h
    by false e false h true n x k = held_up e n
    by false e false h false n true k = lost e n k
    by false e false h false n false k = fault e n (record { goes = h; found = k }) s.fault refl

-- what is so of a turn that goes on
abbrev Going : Seen → Bool → Link → Bool → Type 0
Going s late link shared = (s.busy ≡ false) × (links s.course && late ≡ false) × Ahead s link × (s.fault ≡ None) × (shared ≡ false)

going : (s : Seen) (late : Bool) (link : Link) (shared : Bool) → Ok tt ≡ halt_of s late link shared → Going s late link shared
going s late link shared on = by (halts s late link shared)
  where
    Goes : Result ⊤ Ending → Type 0
    Goes (Ok x) = Going s late link shared
    Goes (Err x) = Unit {0}

    goes : {h : Result ⊤ Ending} → Halts s late link shared h → Goes h
    goes (in_flight f) = tt
    goes (stopped f h) = tt
    goes (held_up f n) = tt
    goes (lost f n x) = tt
    goes (faulted f n h y) = tt
    goes (clashes f n h y z) = tt
    goes (goes_on_lem f n h y z) = (f, n, h, y, z)

    by : Halts s late link shared (halt_of s late link shared) → Going s late link shared
    by x = rw (← on) at (goes x)

-- what an operation writes that is not late has landed
results_landed : {t : ℕ} {rs : List Register} → Bank t rs → (o : Op) → op_late t rs o ≡ false
    → (o.t ≢ 0 → (register_at rs o.t).land ≤ t + 1) × (o.carry ≢ 0 → (register_at rs o.carry).land ≤ t + 1)
results_landed {t} {rs} z o f =
    let read = ltb t (register_at rs o.s1).ready || ltb t (register_at rs o.s2).ready || named_late t rs o.b || named_late t rs o.stored in
    let (g, c) = or_false (read || ltb t (register_at rs o.t).ready) (named_late t rs o.carry) f in
    let (_, b) = or_false read (ltb t (register_at rs o.t).ready) g in (
      λ n. omega (arith, z.low o.t, ltb-false t (register_at rs o.t).ready b),
      λ n. omega (arith, z.low o.carry, ltb-false t (register_at rs o.carry).ready (rw (ne_eqb o.carry 0 n) at c)),
    )

-- what it writes is clear: its registers were not in flight, and loading refuses two results for one
pub written_clear : {d : Delays} {p : List ℕ} {t : ℕ} {point : Point} {rs : List Register} {m : List ℕ} {s : Seen} {a : Scratch} {j : ℕ} (late shared : Bool) (w : List ℕ)
    → Runs d p → Running t p point rs → spots w ≡ instruction_at p point.place.0 → Gathered (op_late t rs) (fire_at rs) d m j (map operation (spots w)) s a
    → Ok tt ≡ halt_of s late point.link shared → Clear (t + 1) rs (dests_in a.results)
written_clear {d} {p} {t} {point} {rs} {s = s} late shared w runs here e k on =
    let (free, _, _, good, _) = going s late point.link shared on in
    rw ((k.came free).lists good).dests
    record {
      landed = dests_have (λ r. (register_at rs r).land ≤ t + 1) (map operation (spots w)) (λ o m. results_landed here.bank o (any_false_in (op_late t rs) _ (sym k.busy ∙ free) m)) d;
      apart = rw e (runs.loaded.apart _ here.start);
    }

module _ {d : Delays} {p : List ℕ} {t : ℕ} {point : Point} {rs : List Register} {m : List ℕ} {s : Seen} {a : Scratch} (runs : Runs d p) (here : Running t p point rs)
    (k : Gathered (op_busy (views t rs)) (fire (map (λ (c : Cell). c.value) (views t rs))) d m (following p point.place.0) (operations_at p point.place.0) s a) (landing : List ℕ) where
  abbrev link : Link
  link = point.link

  abbrev used : ℕ
  used = point.used

  abbrev i : ℕ
  i = point.place.0

  -- the place after the instruction
  abbrev after : Place
  after = record { 0 = following p i }

  abbrev l : Registers
  l = views t rs

  abbrev es : List Fired
  es = fired l (operations_at p i)

  abbrev whole : Memory
  whole = beside m link

  abbrev from : Situation Memory Change
  from = situation_at i l whole landing used

  abbrev held : List Store
  held = a.stores

  came : s.busy ≡ false → Came d m (following p i) (operations_at p i) es s a
  came free = k.came free

  lists : s.busy ≡ false → s.fault ≡ None → Lists (dests d (operations_at p i)) (result_values m es) (stores_of (length m) es) a
  lists free good = (came free).lists good

  -- where it goes is where its course does
  aims : s.busy ≡ false → next_from (following p i) es (goes_to (following p i)) ≡ next_by (turn_in s.course s.place) (goes_to (following p i))
  aims free = (came free).next (goes_to (following p i))

  -- it reads every register exactly if its course is a call or a return
  reading : s.busy ≡ false → any has_every (operations_at p i) ≡ links s.course
  reading free =
      reads_by_link (following p i) (map (λ (c : Cell). c.value) l) (operations_at p i) (runs.single i here.start)
      ∙ ap by_link (next_from_lem (following p i) es ∙ aims free) ∙ by s.course
    where
      by : (w : Course) → by_link (next_by (turn_in w s.place) (goes_to (following p i))) ≡ links w
      by Open = refl
      by Stop = refl
      by Set = refl
      by Call = refl
      by Back = refl

  -- a register in flight, of those that it reads and writes
  flying : s.busy ≡ false → is_in_flight d p i l whole (drop used landing) ≡ links s.course && any_late t rs
  flying free =
      rw (sym k.busy ∙ free, reading free, below_same (flies l) (λ r. ltb t (register_at rs r).ready) 288 (λ r _. view_late t rs r))

  leads : s.busy ≡ false → Ahead s link
      → out_by (is_start p) (following p i) (next_from (following p i) es (goes_to (following p i))) whole es ≡ goes_on (links_of s.course (following p i)) (goal_of s.course s.place after link).0 m es
  leads free h = rw (aims free) (turn_goes p link here.linked m es after s.course s.place h.goes h.found)

  -- it ends the run, and nothing was written
  pub turn_off : (e : Ending) → Err e ≡ halt_of s (any_late t rs) link (any_share held) → Halted d p landing t point from e rs m
  turn_off e q = record { running = here; is = by (any_share held) refl (Err e) q (halts s (any_late t rs) link (any_share held)) }
    where
      Ended : Result ⊤ Ending → Type 0
      Ended (Ok x) = Unit {0}
      Ended (Err x) = step change (instruction_of d p) from ≡ ends x (ended_by x from)

      ended : {b : Bool} {h : Result ⊤ Ending} → any_share held ≡ b → Halts s (any_late t rs) link b h → Ended h
      ended c (in_flight f) = step_busy d p i l whole (drop used landing) here.idle (rw (sym k.busy ∙ f))
      ended c (stopped f h) = step_stop d p i l whole (drop used landing) here.idle (flying f ∙ stays s.course (any_late t rs) h) (aims f ∙ turn_stops s.course s.place _ h)
      ended c (held_up f n) = step_busy d p i l whole (drop used landing) here.idle (flying f ∙ n)
      ended c (lost f n x) = step_lost d p i l whole (drop used landing) here.idle (flying f ∙ n) (rw (aims f) (turn_lost p link here.linked m es after s.course s.place x))
      ended c (faulted {f = g} f n h y) =
          step_fault d p i l whole (drop used landing) here.idle (flying f ∙ n) _ _ (leads f h) g (sym (came f).fault ∙ y)
      ended c (clashes f n h y z) =
          step_shared d p i l whole (drop used landing) here.idle (flying f ∙ n) _ _ (leads f h) (sym (came f).fault ∙ y) (rw (← (lists f y).stores) (c ∙ z))
      ended c (goes_on_lem f n h y z) = tt

      by : (b : Bool) → any_share held ≡ b → (h : Result ⊤ Ending) → h ≡ halt_of s (any_late t rs) link b → Halts s (any_late t rs) link b (halt_of s (any_late t rs) link b) → Ended h
      by b c h r x = rw r (ended c x)

  acts_go : (cs : List Change) (j : ℕ) → out_by (is_start p) (following p i) (next_from (following p i) es (goes_to (following p i))) whole es ≡ goes_on cs j m es
      → fault_of (length m) es ≡ None → any_share (stores_of (length m) es) ≡ false
      → (instruction_of d p i).acts (map (λ (c : Cell). c.value) l) whole ≡ go (result_values m es) (map storing (stores_of (length m) es) ++ cs) j
  unfolding acts
  acts_go cs j went faultless unshared = rw (next_from_lem (following p i) es, went, faultless, unshared)

  -- the link after it
  linked_after : s.busy ≡ false → let after-it = link_after s.course link after in (after-it.starts ≡ is_start p after-it.place.0) × (after-it.place.0 < 2 ^ 32)
  linked_after free = by s.course (aims free)
    where
      by : (w : Course) → next_from (following p i) es (goes_to (following p i)) ≡ next_by (turn_in w s.place) (goes_to (following p i))
          → ((link_after w link after).starts ≡ is_start p (link_after w link after).place.0) × ((link_after w link after).place.0 < 2 ^ 32)
      by Open e = (here.linked, here.low)
      by Stop e = (here.linked, here.low)
      by Set e = (here.linked, here.low)
      by Call e =
          let (o, t, m, w) = calls_by (following p i) (map (λ (c : Cell). c.value) l) (operations_at p i) (next_from_lem (following p i) es ∙ e) in
          (sym (runs.calls i o here.start m w), omega (arith, runs.short, following_within p i (start_inside p i here.start)))
      by Back e = (here.linked, here.low)

  -- everything is written, and the run goes on where the course says
  module _ (on : Ok tt ≡ halt_of s (any_late t rs) link (any_share held)) {us : List Register} {until : Count} (bank : Bank (t + 1) us) (freed : Freed (t + 1) until.0 us)
      (put : views (t + 1) us ≡ puts (writes (dests_in a.results) (values_in a.results) (drop used landing)) (views (t + 1) rs))
      (m' : List ℕ) (stored : m' ≡ stores store held m) where
    abbrev to : Point
    to = record { place = goal_of s.course s.place after link; used = used + length a.results; free = until; link = link_after s.course link after }

    turn_on : s.busy ≡ false → links s.course && any_late t rs ≡ false → Ahead s link → s.fault ≡ None → any_share held ≡ false
        → Moved d p landing t point from to us m'
    turn_on free n h good apart =
        let ks = lists free good in
        let went = leads free h in
        let faultless : fault_of (length m) es ≡ None = sym (came free).fault ∙ good in
        let unshared : any_share (stores_of (length m) es) ≡ false = rw (← ks.stores) apart in
        let left : bytes_left (dests d (operations_at p i)) (result_values m es) (drop used landing) ≡ drop (used + length a.results) landing = rw (← ks.dests, ← ks.values) (bytes_left_lem a.results landing used) in
        let (linked, low) = linked_after free in
        record {
          onward = omega arith;
          few = omega (arith, k.holds.results.few);
          running =
              record {
                bank = bank;
                freed = freed;
                linked = linked;
                low = low;
                start = arrives runs.loaded here.start (runs.loaded.goes i _ whole _ _ to.place.0 here.start (acts_go _ to.place.0 went faultless unshared));
                idle = rw (put, ks.dests) (writes_idle _ _ _ _ (dests_some d (operations_at p i)) (later_idle t rs here.idle));
              };
          is =
              step_go d p i l whole (drop used landing) here.idle (flying free ∙ n) _ to.place.0 went faultless unshared
              ∙ rw (put, stored, ks.stores, ks.dests, ks.values, left, views_aged t rs, link_left s.course link after (stores store (stores_of (length m) es) m));
        }

    pub turn_went : Moved d p landing t point from to us m'
    turn_went = let (free, n, h, good, apart) = going s (any_late t rs) link (any_share held) on in turn_on free n h good apart
