-- What an instruction does: where it goes, how it may end, and that its stores commute.
use mathlib.Core.Path.{◌≡◌, refl, sym, ap, ◌∙◌}
use mathlib.Core.HLevel.{⊥_prop}
use mathlib.Core.Logic.{◌≢◌, ◌⊎◌, inl, inr, ⊎_elim, ∥∥₁_elim}
use mathlib.Core.Bool.{Bool, true, false, Bool-set}
use mathlib.Core.List.Memᴰ
use mathlib.Core.List.{List, [], ◌∷◌, ◌++◌, map, Memᴰ, Pairwise}
use Prim.Native.Nat.{ℕ, suc, ◌+◌, ◌≤◌, ◌<◌}
use native.Mathlib.Omega.{arith}
use lib.Dec.{eqb}
use lib.ListN.{length, get_or, set}
use lib.Seq.{sets, set_comm}
use borrow.Author.Tests.{ltb-false}
use Rattle.word.specs.Choice.{pick}
use Rattle.word.specs.Bytes.{bytes}
use Rattle.word.specs.Lists.{any}
use Rattle.word.proofs.Choice.{by_test, or_false, and_false}
use Rattle.word.proofs.Lists.{any_false_in}
use Rattle.word.proofs.Bytes.{bytes_length}
use Rattle.vliw.specs.Machine.{Out, fault, stop, go}
use Rattle.vliw.specs.declared.Fault.TheVariants.{InFlight, Misaligned, OutOfBounds, StoresClash, BadLink}
use Rattle.vliw.specs.Demand3.{Commute}
use Rattle.isa.specs.Touch.{reads_of, reads, nexts_by, nexts}
use Rattle.isa.specs.Control.{place, turn_of}
use Rattle.isa.specs.declared.Way.{Way}
use Rattle.isa.specs.declared.Way.TheVariants.{Along, Stop, Goto, Branch, Call, Return}
use Rattle.isa.specs.declared.Turn.{Turn}
use Rattle.isa.specs.declared.Op.{Op}
use Rattle.isa.specs.declared.Place.{Place}
use Rattle.isa.proofs.Steps.{either_way}
use Rattle.memory.specs.Memory.{store, share, any_share}
use Rattle.memory.specs.declared.Store.{Store}
use Rattle.machine.specs.Link.{Memory, Change, memory_of, storing, linking, change}
use Rattle.machine.specs.Instruction.{Fired, fire, result_values, stores_of, Next, calls, back, stops, next_by, next_of, faulted, goes_on, out_by, acts}
use Rattle.machine.specs.Instruction.{at as goes_to}
use Rattle.machine.proofs.Phases.{fault_of_is}

-- ---- stores that share no byte commute

set_sets : (vs l : List ℕ) (i j a : ℕ) → i < j → set (sets l j vs) i a ≡ sets (set l i a) j vs
set_sets [] l i j a h = refl
set_sets (v ∷ vs) l i j a h = set_sets vs (set l j v) i (suc j) a (omega arith) ∙ rw (set_comm l j i v a (omega arith))

sets_sets : (us vs l : List ℕ) (i j : ℕ) → i + length us ≤ j → sets (sets l i us) j vs ≡ sets (sets l j vs) i us
sets_sets [] vs l i j h = refl
sets_sets (u ∷ us) vs l i j h = rw (set_sets vs l i j u (omega arith)) (sets_sets us vs (set l i u) (suc i) j (omega arith))

before : (a b : Store) → a.at + a.size ≤ b.at → Commute store a b
before a b h m = sets_sets (bytes a.size a.value) (bytes b.size b.value) m a.at b.at (rw (bytes_length a.size a.value) h)

-- one of the two lies before the other
commute : (a b : Store) → share a b ≡ false → Commute store a b
commute a b h m = ⊎_elim (λ e. sym (before b a (ltb-false _ _ e) m)) (λ e. before a b (ltb-false _ _ e) m) (and_false _ _ h)

-- a store and what else its instruction leaves
abbrev clashing : Store → Change → Bool
clashing s (storing t) = share s t
clashing s (linking i) = false

keeps_apart : (s : Store) (c : Change) → clashing s c ≡ false → Commute change (storing s) c
keeps_apart s (storing t) h m = ap (λ b. memory_of b m.link) (commute s t h m.bytes)
keeps_apart s (linking i) h m = refl

module _ (ls : List Change) (free : (s : Store) → any (clashing s) ls ≡ false) (own : Pairwise (Commute change) ls) where
  none_clashes : (s : Store) (ss : List Store) → any (share s) ss ≡ false → any (clashing s) (map storing ss ++ ls) ≡ false
  none_clashes s [] h = free s
  none_clashes s (t ∷ ss) h = let (first, rest) = or_false (share s t) (any (share s) ss) h in rw (first, none_clashes s ss rest)

  unshared : (ss : List Store) → any_share ss ≡ false → Pairwise (Commute change) (map storing ss ++ ls)
  unshared [] h = own
  unshared (s ∷ ss) h =
      let (first, rest) = or_false _ _ h in
      Pairwise.cons (λ t m. keeps_apart s t (∥∥₁_elim m (Bool-set _ _) (any_false_in (clashing s) _ (none_clashes s ss first)))) (unshared ss rest)

-- ---- where an instruction goes

-- to one of the places that it may go to, or back
abbrev Among : Next → List ℕ → Type 0
Among (goes_to k) ns = Memᴰ k ns
Among (calls k) ns = Memᴰ k ns
Among back ns = Unit {0}
Among stops ns = Unit {0}

among : (j : ℕ) (f : List ℕ) (os : List Op) → Among (next_of j (map (fire f) os)) (nexts j os)
among j f [] = Memᴰ.head refl
among j f (o ∷ os) = by o.way (among j f os)
  where
    by : (w : Way) → Among (next_of j (map (fire f) os)) (nexts j os)
        → Among (next_by (turn_of w (get_or f o.b 0) (place j)) (next_of j (map (fire f) os))) (nexts_by w j (nexts j os))
    by Along h = h
    by Stop h = tt
    by (Goto t) h = Memᴰ.head refl
    by (Branch w t) h =
        either_way (λ (u : Turn). Among (next_by u (next_of j (map (fire f) os))) (t.0 ∷ j ∷ [])) (eqb (get_or f o.b 0) w) _ _
        (Memᴰ.head refl) (Memᴰ.tail (Memᴰ.head refl))
    by (Call t) h = Memᴰ.head refl
    by Return h = tt

-- whether it stops the ways alone say; it calls by a call, and goes back by a return
abbrev Steady : Next → Next → List Op → Type 0
Steady (goes_to k) n os = Unit {0}
Steady (calls k) n os = (o : Op) × (t : Place) × Memᴰ o os × (o.way ≡ Call t)
Steady back n os = (o : Op) × Memᴰ o os × (o.way ≡ Return)
Steady stops n os = n ≡ stops

steady : (j : ℕ) (f g : List ℕ) (os : List Op) → Steady (next_of j (map (fire f) os)) (next_of j (map (fire g) os)) os
steady j f g [] = tt
steady j f g (o ∷ os) = by o.way refl (steady j f g os)
  where
    next : List ℕ → Next
    next h = next_of j (map (fire h) os)

    later : (n m : Next) → Steady n m os → Steady n m (o ∷ os)
    later (goes_to k) m h = tt
    later (calls k) m (p, t, i, e) = (p, t, Memᴰ.tail i, e)
    later back m (p, i, e) = (p, Memᴰ.tail i, e)
    later stops m h = h

    by : (w : Way) → o.way ≡ w → Steady (next f) (next g) os
        → Steady (next_by (turn_of w (get_or f o.b 0) (place j)) (next f)) (next_by (turn_of w (get_or g o.b 0) (place j)) (next g)) (o ∷ os)
    by Along e h = later (next f) (next g) h
    by Stop e h = refl
    by (Goto t) e h = tt
    by (Branch v t) e h = either_way (λ (u : Turn). Steady (next_by u (next f)) (next_by (turn_of (Branch v t) (get_or g o.b 0) (place j)) (next g)) (o ∷ os)) (eqb (get_or f o.b 0) v) _ _ tt tt
    by (Call t) e h = (o, t, Memᴰ.head refl, e)
    by Return e h = (o, Memᴰ.head refl, e)

pub calls_by : (j : ℕ) (f : List ℕ) (os : List Op) {k : ℕ} → next_of j (map (fire f) os) ≡ calls k → (o : Op) × (t : Place) × Memᴰ o os × (o.way ≡ Call t)
calls_by j f os e = rw e at (steady j f f os)

-- ---- what an instruction does

module _ (starts : ℕ → Bool) (j : ℕ) (m : Memory) where
  -- where it goes from there, and what becomes of the link
  data Leads : Next → List Change → ℕ → Type 0 where
    on : {k : ℕ} → Leads (goes_to k) [] k
    into : {k : ℕ} → Leads (calls k) (linking j ∷ []) k
    home : starts m.link ≡ true → Leads back [] m.link

  -- how it ended, and what is known then
  data Did (n : Next) (es : List Fired) : Out Change → Type 0 where
    stopped : n ≡ stops → Did n es stop
    astray : Did n es (fault BadLink)
    odd : Did n es (fault Misaligned)
    far : Did n es (fault OutOfBounds)
    clash : Did n es (fault StoresClash)
    went : {k : ℕ} {ls : List Change} → Leads n ls k → any_share (stores_of (length m.bytes) es) ≡ false
        → Did n es (go (result_values m.bytes es) (map storing (stores_of (length m.bytes) es) ++ ls) k)

  goes : {n : Next} {ls : List Change} {k : ℕ} (es : List Fired) → Leads n ls k → Did n es (goes_on ls k m.bytes es)
  goes {n} {ls} {k} es l =
      let ss = stores_of (length m.bytes) es in
      fault_of_is (λ f. Did n es (faulted f (pick (any_share ss) (fault StoresClash) (go (result_values m.bytes es) (map storing ss ++ ls) k))))
      (⊎_elim (λ e. rw e clash) (λ e. rw e (went l e)) (by_test (any_share ss)))
      odd
      far
      (length m.bytes)
      es

  did : (n : Next) (es : List Fired) → Did n es (out_by starts j n m es)
  did stops es = stopped refl
  did (goes_to k) es = goes es on
  did (calls k) es = goes es into
  did back es = ⊎_elim (λ e. rw e (goes es (home e))) (λ e. rw e astray) (by_test (starts m.link))

  module _ {n : Next} {es : List Fired} where
    did_stop : Did n es stop → n ≡ stops
    did_stop (stopped e) = e

    did_fault : Did n es (fault InFlight) → ⊥
    did_fault d = elim d [ ]

    did_go : {vs : List ℕ} {ss : List Change} {k : ℕ} → Did n es (go vs ss k) → (ls : List Change) × Leads n ls k
    did_go (went {ls = ls} l free) = (ls, l)

    did_store : {vs : List ℕ} {ss : List Change} {k : ℕ} → Did n es (go vs ss k) → Pairwise (Commute change) ss
    did_store (went l free) = by l
      where
        by : {n : Next} {ls : List Change} {k : ℕ} → Leads n ls k → Pairwise (Commute change) (map storing (stores_of (length m.bytes) es) ++ ls)
        by on = unshared [] (λ s. refl) Pairwise.nil (stores_of (length m.bytes) es) free
        by into =
            unshared (linking j ∷ []) (λ s. refl) (Pairwise.cons (λ t i. absurd (∥∥₁_elim i ⊥_prop Memᴰ.not-nil)) Pairwise.nil) (stores_of (length m.bytes) es) free
        by (home e) = unshared [] (λ s. refl) Pairwise.nil (stores_of (length m.bytes) es) free

-- the values of the registers that it reads decide it
same_fired : (f g : List ℕ) (os : List Op) → ((r : ℕ) → Memᴰ r (reads os) → get_or f r 0 ≡ get_or g r 0) → map (fire f) os ≡ map (fire g) os
same_fired f g [] h = refl
same_fired f g (o ∷ os) h =
    rw (
      h o.s1 (Memᴰ.head refl),
      h o.s2 (Memᴰ.tail (Memᴰ.head refl)),
      h o.b (Memᴰ.tail (Memᴰ.tail (Memᴰ.head refl))),
      h o.stored (Memᴰ.tail (Memᴰ.tail (Memᴰ.tail (Memᴰ.head refl)))),
      same_fired f g os (λ r m. h r (Memᴰ.append_right (reads_of o) m)),
    )

-- ---- what the abstract machine asks of it

module _ (starts : ℕ → Bool) (j : ℕ) (os : List Op) (f : List ℕ) (m : Memory) where
  did_at : {out : Out Change} → acts starts j os f m ≡ out → let es = map (fire f) os in Did starts j m (next_of j es) es out
  unfolding acts
  did_at e = let es = map (fire f) os in rw (← e) (did starts j m (next_of j es) es)

  -- it goes to a next, or by a return to a start
  pub goes_on_lem : {vs : List ℕ} {ss : List Change} {k : ℕ} → acts starts j os f m ≡ go vs ss k
      → Memᴰ k (nexts j os) ⊎ ((starts k ≡ true) × ((o : Op) × Memᴰ o os × (o.way ≡ Return)))
  goes_on_lem e = let (ls, l) = did_go starts j m (did_at e) in by l (among j f os) (steady j f f os)
    where
      by : {n : Next} {ls : List Change} {k : ℕ} → Leads starts j m n ls k → Among n (nexts j os) → Steady n (next_of j (map (fire f) os)) os
          → Memᴰ k (nexts j os) ⊎ ((starts k ≡ true) × ((o : Op) × Memᴰ o os × (o.way ≡ Return)))
      by on a h = inl a
      by into a h = inl a
      by (home e) a h = inr (e, h)

  pub stores_commute : {vs : List ℕ} {ss : List Change} {k : ℕ} → acts starts j os f m ≡ go vs ss k → Pairwise (Commute change) ss
  stores_commute e = did_store starts j m (did_at e)

  pub not_in_flight : acts starts j os f m ≢ fault InFlight
  not_in_flight e = did_fault starts j m (did_at e)

  -- the values of the registers that it reads decide what it does
  pub reads_decide : (g : List ℕ) → ((r : ℕ) → Memᴰ r (reads os) → get_or f r 0 ≡ get_or g r 0) → acts starts j os f m ≡ acts starts j os g m
  unfolding acts
  reads_decide g h = rw (same_fired f g os h)

  -- whether it stops does not go by the registers
  pub halts : (g : List ℕ) → acts starts j os f m ≡ stop → acts starts j os g m ≡ stop
  unfolding acts
  halts g e = rw (rw (did_stop starts j m (did_at e)) at (steady j f g os))
