-- Laws of an operation's results, as scratch holds them.
use mathlib.Core.Path.{◌≡◌, refl, sym, ◌∙◌}
use mathlib.Core.Bool.{Bool, true, false}
use mathlib.Core.List.{List, [], ◌∷◌, ◌++◌, map, map-append, append-nil, append_assoc}
use Prim.Native.Nat.{ℕ, zero, suc, ◌≤◌, ◌<◌}
use native.Mathlib.Omega.{arith}
use lib.Dec.{eqb}
use lib.ListN.{length, length-append}
use borrow.Author.Tests.{eq-eqb}
use Rattle.word.specs.Choice.{pick}
use Rattle.ops.specs.Value.{carry}
use Rattle.isa.specs.Touch.{dests}
use Rattle.isa.specs.declared.Op.{Op}
use Rattle.isa.specs.declared.Delays.{Delays}
use Rattle.machine.specs.Instruction.{Fired, value_in}
use Rattle.std.specs.List.{All}
use Rattle.std.proofs.lemmas.List.Elements.{All-append}
use Rattle.ticks.specs.Ticks.{Results}
use Rattle.ticks.specs.declared.Made.{Made}
use Rattle.gather.specs.Gather.{dest_in, values_by, Noted}

-- what holds of one holds of a list of it
pub all_one : {A : Type 0} (P : A → Type 0) {x : A} → P x → All P (x ∷ [])
all_one P h zero d b = h
all_one P h (suc k) d b = absurd (omega arith)

-- ---- the results of one operation

one_then : {A : Type 0} (t : Bool) (x : A) (l : List A) → pick t [] (x ∷ []) ++ l ≡ pick t l (x ∷ l)
one_then true x l = refl
one_then false x l = refl

map_one : {A B : Type 0} (f : A → B) (t : Bool) (x : A) (l : List A) → map f (pick t l (x ∷ l)) ≡ pick t (map f l) (f x ∷ map f l)
map_one f true x l = refl
map_one f false x l = refl

dests_two : (d : Delays) (o : Op) → dest_in d o.opcode o.t [] ++ dest_in d o.opcode o.carry [] ≡ dests d (o ∷ [])
dests_two d o = simp (one_then, map_one)

values_two : (e : Fired) (v : ℕ) → value_in e.op.t v [] ++ value_in e.op.carry (carry e.x e.y e.b) [] ≡ values_by e v
values_two e v = one_then (eqb e.op.t 0) v _

-- ---- how many there are

pub noted_none : {ms : List Made} (more : ℕ) → Results ms → Noted more ms ms [] []
noted_none more h = record { results = h; few = omega arith; dests = sym (append-nil _); values = sym (append-nil _) }

module _ {ms : List Made} where
  module _ {ns : List Made} (d : Delays) (e : Fired) (v : ℕ) (g : Noted 1 ms ns (dest_in d e.op.opcode e.op.t []) (value_in e.op.t v [])) where
    pub noted_two : {ks : List Made}
        → Noted 1 ns ks (dest_in d e.op.opcode e.op.carry []) (value_in e.op.carry (carry e.x e.y e.b) [])
        → Noted 2 ms ks (dests d (e.op ∷ [])) (values_by e v)
    noted_two h =
        record {
          results = h.results;
          few = omega (arith, g.few, h.few);
          dests = h.dests ∙ rw (g.dests, append_assoc, dests_two d e.op);
          values = h.values ∙ rw (g.values, append_assoc, values_two e v);
        }

    pub noted_one : e.op.carry ≡ 0 → Noted 2 ms ns (dests d (e.op ∷ [])) (values_by e v)
    noted_one z = noted_two (rw (eq-eqb e.op.carry 0 z) (noted_none 1 g.results))

  pub noted_silent : (d : Delays) (e : Fired) (v : ℕ) → e.op.t ≡ 0 → e.op.carry ≡ 0 → Results ms
      → Noted 2 ms ms (dests d (e.op ∷ [])) (values_by e v)
  noted_silent d e v y z h = noted_one d e v (rw (eq-eqb e.op.t 0 y) (noted_none 1 h)) z

-- one more result
pub noted_more : {ms : List Made} → Results ms → (m : Made) → length ms < 64 → m.register < 288 → 0 < m.delay → m.delay ≤ 8
    → Noted 1 ms (ms ++ (m ∷ [])) (record { reg = m.register; delay = m.delay } ∷ []) (m.value ∷ [])
noted_more {ms} z m h q low high =
    record {
      results =
          record {
            few = rw (length-append ms (m ∷ [])) (omega arith);
            register = All-append (λ (x : Made). x.register < 288) ms (m ∷ []) z.register (all_one (λ (x : Made). x.register < 288) q);
            delay = All-append (λ (x : Made). (0 < x.delay) × (x.delay ≤ 8)) ms (m ∷ []) z.delay (all_one (λ (x : Made). (0 < x.delay) × (x.delay ≤ 8)) (low, high));
          };
      few = rw (length-append ms (m ∷ [])) (omega arith);
      dests = map-append _ ms (m ∷ []);
      values = map-append _ ms (m ∷ []);
    }
