-- Laws of stamps: a register has an instruction's stamp once it was a destination there, so that a second time shows.
use mathlib.Core.Path.{◌≡◌, refl, sym, ap, ◌∙◌}
use mathlib.Core.Logic.{⊎_elim}
use mathlib.Core.Bool.{Bool, true, false, not, ◌||◌, ◌&&◌, or_assoc}
use mathlib.Core.Bool.{or-false as or_nothing}
use mathlib.Core.List.{List, [], ◌∷◌, map}
use Prim.Native.Nat.{ℕ, zero, suc, ◌≤◌, ◌<◌, zero-le}
use native.Mathlib.Nat.{le_refl}
use native.Mathlib.Omega.{arith}
use lib.Dec.{eqb}
use lib.ListN.{length, get_or, set, replicate, length-set}
use lib.Seq.{get_or-set_same, get_or-set_other}
use borrow.Author.Tests.{eqb-true, eqb-false, eq-eqb, ne_eqb}
use Rattle.word.specs.Choice.{pick}
use Rattle.word.specs.Lists.{any, member, repeats}
use Rattle.word.proofs.Choice.{or_right, by_test}
use Rattle.word.proofs.Lists.{any_none_in}
use Rattle.isa.specs.Program.{cluster, operation}
use Rattle.isa.specs.Touch.{Result, result_in, results, destinations}
use Rattle.isa.specs.declared.Op.{Op}
use Rattle.isa.specs.declared.Destinations.{Destinations}
use Rattle.isa.specs.declared.Spot.{Spot}
use Rattle.isa.proofs.Decoded.{decoded}

-- at first
pub unstamped : (size n r : ℕ) → get_or (replicate size 0) r 0 ≤ n
unstamped zero n r = zero-le
unstamped (suc size) n zero = zero-le
unstamped (suc size) n (suc r) = unstamped size n r

module _ (n : ℕ) where
  -- whether one of ds has the stamp n, or stands twice
  abbrev pub clashes : List ℕ → List ℕ → Bool
  clashes m ds = any (λ d. eqb (get_or m d 0) n) ds || repeats ds

  pub clashes_none : (m ds : List ℕ) → ((r : ℕ) → get_or m r 0 < n) → clashes m ds ≡ repeats ds
  clashes_none m ds h = rw (any_none_in (λ d. eqb (get_or m d 0) n) ds (λ d _. ne_eqb (get_or m d 0) n (λ e. omega (arith, h d))))

  module _ (m : List ℕ) (r : ℕ) (h : r < length m) where
    get_or_stamp : (d : ℕ) → eqb (get_or (set m r n) d 0) n ≡ eqb (get_or m d 0) n || eqb r d
    get_or_stamp d = by (eqb r d) refl
      where
        by : (z : Bool) → eqb r d ≡ z → eqb (get_or (set m r n) d 0) n ≡ eqb (get_or m d 0) n || z
        by true e = rw (← eqb-true r d e, get_or-set_same m r n 0 h, eq-eqb n n refl) (sym (or_right (eqb (get_or m r 0) n) refl))
        by false e = rw (or_nothing, get_or-set_other m r d n 0 (λ q. eqb-false r d e (sym q)))

    any_stamp : (ds : List ℕ) → any (λ d. eqb (get_or (set m r n) d 0) n) ds ≡ any (λ d. eqb (get_or m d 0) n) ds || member r ds
    any_stamp [] = refl
    any_stamp (d ∷ ds) = rw (get_or_stamp d, any_stamp ds) (swap (eqb (get_or m d 0) n) (eqb r d) _ _)
      where
        swap : (a b c d : Bool) → (a || b) || (c || d) ≡ (a || c) || (b || d)
        swap true b c d = refl
        swap false true true d = refl
        swap false true false d = refl
        swap false false c d = refl

    clashes_stamp : (ds : List ℕ) → clashes m (r ∷ ds) ≡ eqb (get_or m r 0) n || clashes (set m r n) ds
    clashes_stamp ds =
        let stamped = any (λ d. eqb (get_or m d 0) n) ds in
        rw (any_stamp ds, or_assoc stamped (member r ds) (repeats ds)) (or_assoc (eqb (get_or m r 0) n) stamped _)

    most_stamp : ((d : ℕ) → get_or m d 0 ≤ n) → (d : ℕ) → get_or (set m r n) d 0 ≤ n
    most_stamp b d =
        ⊎_elim
        (λ e. rw (← eqb-true r d e, get_or-set_same m r n 0 h) (le_refl n))
        (λ e. rw (get_or-set_other m r d n 0 (λ q. eqb-false r d e (sym q))) (b d))
        (by_test (eqb r d))

  -- one destination more; register 0 is none
  abbrev into : ℕ → List ℕ → List ℕ
  into r ds = pick (eqb r 0) ds (r ∷ ds)

  -- r is stamped, unless it is 0: what b says of it, and the stamps k that are left
  abbrev Stamped : List ℕ → ℕ → Bool → List ℕ → Type 0
  Stamped m r b k = (b ≡ (not (eqb r 0) && eqb (get_or m r 0) n)) × (k ≡ pick (eqb r 0) m (set m r n))

  -- as many stamps as there are registers, and none above n
  abbrev pub Sized : List ℕ → Type 0
  Sized m = (length m ≡ 288) × ((d : ℕ) → get_or m d 0 ≤ n)

  stamped : (m : List ℕ) (r : ℕ) {b : Bool} {k : List ℕ} → r < 288 → Sized m → Stamped m r b k
      → Sized k × ((ds : List ℕ) → clashes m (into r ds) ≡ b || clashes k ds)
  stamped m r h s (e, g) = rw (e, g) (by (eqb r 0))
    where
      inside : r < length m
      inside = rw s.0 h

      by : (z : Bool) → Sized (pick z m (set m r n))
          × ((ds : List ℕ) → clashes m (pick z ds (r ∷ ds)) ≡ (not z && eqb (get_or m r 0) n) || clashes (pick z m (set m r n)) ds)
      by true = (s, λ ds. refl)
      by false = ((length-set m r n ∙ s.0, most_stamp m r inside s.1), clashes_stamp m r inside)

  -- ---- an operation's destinations

  abbrev registers : List Result → List ℕ
  registers = map (λ (x : Result). x.register)

  into_result : (r o : ℕ) (rs : List Result) → registers (result_in r o rs) ≡ into r (registers rs)
  into_result r o rs = by (eqb r 0)
    where
      by : (z : Bool) → registers (pick z rs (record { register = r; opcode = o } ∷ rs)) ≡ pick z (registers rs) (r ∷ registers rs)
      by true = refl
      by false = refl

  destinations_one : (o : Op) (os : List Op) → destinations (o ∷ os) ≡ into o.t (into o.carry (destinations os))
  destinations_one o os = into_result o.t o.opcode _ ∙ ap (into o.t) (into_result o.carry o.opcode (results os))

  pub stamped_op : (m : List ℕ) (o : Op) (d : Destinations) {b c : Bool} {j k : List ℕ} → d ≡ record { t = o.t; carry = o.carry }
      → (d.t < 288) × (d.carry < 288) → Sized m → Stamped m d.t b j → Stamped j d.carry c k
      → Sized k × ((os : List Op) → clashes m (destinations (o ∷ os)) ≡ b || c || clashes k (destinations os))
  stamped_op m o d same (x, y) h e g =
      let (still, first) = stamped m d.t x h e in
      let (last, second) = stamped _ d.carry y still g in
      let t : o.t ≡ d.t = sym (ap (λ (n : Destinations). n.t) same) in
      let carry : o.carry ≡ d.carry = sym (ap (λ (n : Destinations). n.carry) same) in
      (last, λ os. rw (destinations_one o os, t, carry, first (into d.carry (destinations os)), second (destinations os)) (simp or_assoc))

  -- the first of them was stamped before: whatever else is done
  pub stamped_first : (m : List ℕ) (o : Op) (d : Destinations) {b : Bool} {j : List ℕ} → d ≡ record { t = o.t; carry = o.carry }
      → (d.t < 288) × (d.carry < 288) → Sized m → Stamped m d.t b j → b ≡ true
      → Sized j × ((os : List Op) → clashes m (destinations (o ∷ os)) ≡ true)
  stamped_first m o d same (x, y) h e told =
      let (still, first) = stamped m d.t x h e in
      let t : o.t ≡ d.t = sym (ap (λ (n : Destinations). n.t) same) in
      (still, λ os. rw (destinations_one o os, t, first (into o.carry (destinations os)), told))

-- `decode` names registers below 288
pub registers_in_lem : (x : Spot) (d : Destinations) → x.opened ≤ 4 → d ≡ record { t = (operation x).t; carry = (operation x).carry }
    → (d.t < 288) × (d.carry < 288)
registers_in_lem x d h e = let k = decoded (cluster x) x.syllable (omega arith) in rw e (k.t, k.carry)
