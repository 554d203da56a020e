-- What an operation does, one law for each arm of the code.
use mathlib.Core.Path.{◌≡◌, refl, sym, ◌∙◌, subst}
use mathlib.Core.Logic.{◌≢◌}
use mathlib.Core.Bool.{Bool, true, false, false≢true, or-true, or-false}
use mathlib.Core.List.{List, [], ◌∷◌, ◌++◌, append-nil}
use Prim.Native.Nat.{ℕ, ◌+◌, ◌≤◌, ◌<◌}
use native.Mathlib.Omega.{arith}
use lib.ListN.{length, length-append}
use borrow.Author.Tests.{eq-eqb, ne_eqb}
use Rattle.word.specs.Bytes.{number_at}
use Rattle.ops.specs.Value.{value, loaded, stored}
use Rattle.vliw.specs.declared.Fault.{Fault}
use Rattle.isa.specs.Syllable.{is_mem}
use Rattle.isa.specs.Control.{place, turn_of}
use Rattle.isa.specs.Touch.{dests}
use Rattle.isa.specs.declared.Delays.{Delays}
use Rattle.std.specs.Prelude.{Option, None, Some, Result, Ok}
use Rattle.std.proofs.lemmas.List.Elements.{All-append}
use Rattle.memory.specs.Memory.{size_of, fault_in, ◌or_else◌}
use Rattle.memory.specs.declared.Store.{Store}
use Rattle.machine.specs.Instruction.{Fired, is_store, access_of, value_in, result_values, stores_of, fault_of, Next, next_by}
use Rattle.gather.specs.Gather.{next_from, Formed, is_turn, turn_in, dest_in, computed_of, values_by, Noted, Holds, Acts, Does}
use Rattle.memory.specs.Held.{Within, Stores}
use Rattle.gather.specs.declared.Scratch.{Scratch}
use Rattle.gather.specs.declared.Seen.{Seen}
use Rattle.isa.proofs.Formats.{within_true, within_false}
use Rattle.gather.proofs.Opcodes.{memory_range, plain_class, control_no_memory, no_load, no_store, goes_along, memory_goes_along, control_silent}
use Rattle.gather.proofs.Growth.{all_one, noted_one, noted_silent}

-- to the stores ps at most one is added: those of ss
record Laid (m : ℕ) (ps qs ss : List Store) : Type 0 where
  stores : Stores qs m
  few : length qs ≤ length ps + 1
  lists : qs ≡ ps ++ ss

same_fault : (f : Option Fault) → f ≡ f or_else None
same_fault None = refl
same_fault (Some f) = refl

module _ (m : List ℕ) (e : Fired) where
  laid_none : is_store e.op ≡ false → {ps qs : List Store} → qs ≡ ps → Stores ps (length m) → Laid (length m) ps qs (stores_of (length m) (e ∷ []))
  laid_none t q h = rw (t, q) (record { stores = h; few = omega arith; lists = sym (append-nil _) })

  -- the fault of an access
  pub own_fault : is_mem e.op.opcode ≡ true → {a : Result ℕ Fault} → a ≡ access_of (length m) e → fault_in a ≡ fault_of (length m) (e ∷ [])
  own_fault t q = rw (t, q) (same_fault (fault_in (access_of (length m) e)))

-- a fault is one
abbrev is_first : Option Fault → Type 0
is_first None = ⊥
is_first (Some f) = Unit {0}

pub none_first : (f : Fault) → Some f ≢ None
none_first f e = subst is_first e tt

-- and the first one stays
pub stays_first : (x g : Option Fault) (f : Fault) → x ≡ Some f → x ≡ x or_else g
stays_first x g f e = rw e

module _ {d : Delays} {m : List ℕ} {j : ℕ} {e : Fired} {s : Seen} {a : Scratch} (h : Holds (length m) a) where
  -- a fault, before or of its own
  pub faults : (f : Option Fault) → f ≢ None → f ≡ s.fault or_else fault_of (length m) (e ∷ []) → Formed e.op → is_mem e.op.opcode ≡ true
      → Acts d m j e s a (record { busy = s.busy; course = s.course; fault = f; place = s.place }) a
  faults f n q o t =
      record {
        busy = refl;
        fault = q;
        next = memory_goes_along e o j (turn_in s.course s.place) t;
        holds = record { results = h.results; stores = h.stores };
        few = omega arith;
        fewer = omega arith;
        lists = λ z. absurd (n z);
      }

  -- no fault: its results, its stores, and where it goes on
  module _ (q : fault_of (length m) (e ∷ []) ≡ None) where
    done : {r : Seen} {b : Scratch} → r.busy ≡ s.busy → r.fault ≡ s.fault
        → ((n : Next) → next_by (turn_in r.course r.place) n ≡ next_by (turn_in s.course s.place) (next_from j (e ∷ []) n))
        → Noted 2 a.results b.results (dests d (e.op ∷ [])) (result_values m (e ∷ []))
        → Laid (length m) a.stores b.stores (stores_of (length m) (e ∷ []))
        → Acts d m j e s a r b
    done x y n g t =
        record {
          busy = x;
          fault = rw q (y ∙ same_fault s.fault);
          next = n;
          holds = record { results = g.results; stores = t.stores };
          few = g.few;
          fewer = t.few;
          lists = λ _. record { dests = g.dests; values = g.values; stores = t.lists };
        }

  results_only : {b : Scratch} → Formed e.op → is_mem e.op.opcode ≡ false → is_turn e.op.opcode ≡ false
      → Noted 2 a.results b.results (dests d (e.op ∷ [])) (values_by e (computed_of e.op.opcode e.x e.y e.b)) → b.stores ≡ a.stores
      → Acts d m j e s a s b
  results_only o t u g q = done (rw t) refl refl (goes_along e o j (turn_in s.course s.place) u) (rw (no_load e t) g) (laid_none m e (no_store e t) q h.stores)

  pub computes : {b : Scratch} → Formed e.op → 0 < e.op.opcode → e.op.opcode ≤ 51
      → Noted 2 a.results b.results (dests d (e.op ∷ [])) (values_by e (value e.op.opcode e.x e.y e.b)) → b.stores ≡ a.stores
      → Acts d m j e s a s b
  computes o p q g =
      let (t, u) = plain_class e.op.opcode p (omega arith) (λ x. omega arith) in
      results_only o t u (rw (ne_eqb e.op.opcode 60 (λ z. omega arith)) g)

  pub copies : {b : Scratch} → Formed e.op → e.op.opcode ≡ 60
      → Noted 1 a.results b.results (dest_in d e.op.opcode e.op.t []) (value_in e.op.t e.x []) → b.stores ≡ a.stores
      → Acts d m j e s a s b
  copies f q g =
      let (t, u) = plain_class e.op.opcode (omega arith) (omega arith) (λ x. omega arith) in
      results_only f t u (rw (eq-eqb e.op.opcode 60 q) (noted_one d e _ g (f.single (omega arith))))

  pub turns : {r : Seen} → Formed e.op → is_turn e.op.opcode ≡ true → r.busy ≡ s.busy → r.fault ≡ s.fault
      → ((n : Next) → next_by (turn_in r.course r.place) n ≡ next_by (turn_in s.course s.place) (next_by (turn_of e.op.way e.b (place j)) n))
      → Acts d m j e s a r a
  turns f t x q n =
      let u = control_no_memory e.op.opcode t in
      let (y, z) = control_silent e f t in
      done (rw u) x q n (noted_silent d e _ y z h.results) (laid_none m e (no_store e u) refl h.stores)

  -- an access that goes to p
  module _ {p : ℕ} (f : Formed e.op) (t : is_mem e.op.opcode ≡ true) (to : Ok p ≡ access_of (length m) e) where
    pub loads : {b : Scratch} → e.op.opcode ≤ 56
        → Noted 1 a.results b.results (dest_in d e.op.opcode e.op.t []) (value_in e.op.t (loaded e.op.opcode (number_at (size_of e.op.opcode) p m)) [])
        → b.stores ≡ a.stores
        → Acts d m j e s a s b
    loads u g q =
        let c = e.op.opcode in
        let r = memory_range c t in
        done (sym (own_fault m e t to)) refl refl (memory_goes_along e f j (turn_in s.course s.place) t)
        (rw (within_true 52 56 c r.0 u, ← to) (noted_one d e _ g (f.single r.0)))
        (laid_none m e (within_false 57 59 c (λ x y. omega arith)) q h.stores)

    pub lays : {b : Scratch} {n : ℕ} → n ≡ size_of e.op.opcode → 56 < e.op.opcode → Within p n (length m) → length a.stores < 32
        → b.stores ≡ a.stores ++ (record { at = p; size = n; value = stored e.op.opcode e.stored } ∷ []) → b.results ≡ a.results
        → Acts d m j e s a s b
    lays {b} {n} size u w room l q =
        let c = e.op.opcode in
        let r = memory_range c t in
        let laid : Store = record { at = p; size = n; value = stored c e.stored } in
        let within : Store → Type 0 = λ (s : Store). Within s.at s.size (length m) in
        let g : Stores b.stores (length m) = rw l (All-append within a.stores (laid ∷ []) h.stores (all_one within {x = laid} w)) in
        done (sym (own_fault m e t to)) refl refl (memory_goes_along e f j (turn_in s.course s.place) t)
        (rw q (noted_silent d e _ (f.silent u (λ z. omega arith)) (f.single r.0) h.results))
        (rw (within_true 57 59 c u r.1, ← to, ← size) (record { stores = g; few = rw (l, length-append a.stores (laid ∷ [])) (omega arith); lists = l }))

-- ---- in flight or not

module _ {late : Bool} {d : Delays} {m : List ℕ} {j : ℕ} {e : Fired} {s : Seen} {a : Scratch} where
  pub held_back : {r : Seen} → late ≡ true → Holds (length m) a
      → r ≡ record { busy = true; course = s.course; fault = s.fault; place = s.place } → Does late d m j e s a r a
  held_back l h q =
      rw q
      record {
        busy = rw (l, or-true s.busy);
        holds = record { results = h.results; stores = h.stores };
        few = omega arith;
        fewer = omega arith;
        acts = λ z. absurd (false≢true (sym z));
      }

  pub goes_ahead : {r : Seen} {b : Scratch} → late ≡ false → Acts d m j e s a r b → Does late d m j e s a r b
  goes_ahead l h = record { busy = rw (l, or-false s.busy) h.busy; holds = h.holds; few = h.few; fewer = h.fewer; acts = λ z. h }
