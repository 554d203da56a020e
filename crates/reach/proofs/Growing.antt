-- How the search's places grow: by one that is there already, by one that is put in, by several.
use mathlib.Core.Path.{◌≡◌, refl, sym, ap, ◌∙◌}
use mathlib.Core.Logic.{◌⊎◌, inl, inr, ⊎_elim}
use mathlib.Core.List.Memᴰ
use mathlib.Core.List.{List, [], ◌∷◌, ◌++◌, Memᴰ}
use Prim.Native.Nat.{ℕ, suc, ◌+◌, ◌-◌, ◌≤◌, ◌<◌}
use native.Mathlib.Nat.{le_refl, le_trans, eq-or-lt_of_le}
use native.Mathlib.Numerals.{add-one}
use native.Mathlib.Omega.{arith}
use lib.ListN.{length, get_or, length-append}
use Rattle.std.proofs.lemmas.Bool.{cases_lt}
use Rattle.std.specs.List.{insert}
use Rattle.std.proofs.lemmas.List.Edits.{length-insert, get_or-insert_below, get_or-insert_at, get_or-insert_above}
use Rattle.isa.specs.declared.Place.{Place}
use Rattle.reach.specs.declared.Near.{Near}
use Rattle.reach.specs.Near.{nowhere, place_at, steps_at, Stands, Gap, Ordered, Has, Joined}

pub joined_none : {k : ℕ} (r : List Near) → Ordered r k → Joined [] k r r
joined_none r o =
    record {
      ordered = o;
      most = omega arith;
      each = λ j l. inr (j, le_refl j, l, refl, refl);
      kept = λ h. h;
      has = λ m. absurd (Memᴰ.not-nil m);
    }

pub joined_there : {q k i : ℕ} (r : List Near) → Ordered r k → Stands r q i → Joined (q ∷ []) k r r
joined_there {q} {k} {i} r o h =
    record {
      ordered = o;
      most = omega arith;
      each = λ j l. inr (j, le_refl j, l, refl, refl);
      kept = λ h. h;
      has = λ m. (i, h.within, h.here ∙ sym (Memᴰ.eq_of_singleton m), o.low i h.within);
    }

pub joined_more : {ts us : List ℕ} {k : ℕ} (r s t : List Near) → Joined ts k r s → Joined us k s t → Joined (ts ++ us) k r t
joined_more {ts} {us} {k} r s t g h =
    record {
      ordered = h.ordered;
      most = omega (arith, g.most, h.most, length-append ts us);
      each = λ j l. ⊎_elim (λ new. inl (Memᴰ.append_right ts new.0, new.1)) (earlier j) (h.each j l);
      kept = λ a. h.kept (g.kept a);
      has = λ m. ⊎_elim (λ old. h.kept (g.has old)) h.has (Memᴰ.append_cases ts m);
    }
  where
    earlier : (j : ℕ) → ((i : ℕ) × (i ≤ j) × (i < length s) × (place_at s i ≡ place_at t j) × (steps_at s i ≡ steps_at t j))
        → (Memᴰ (place_at t j) (ts ++ us) × (steps_at t j ≡ k)) ⊎ ((i : ℕ) × (i ≤ j) × (i < length r) × (place_at r i ≡ place_at t j) × (steps_at r i ≡ steps_at t j))
    earlier j (i, a, l, p, q) =
        ⊎_elim
        (λ new. inl (Memᴰ.cast (sym p) (Memᴰ.append_left us new.0), sym q ∙ new.1))
        (λ old. inr (old.0, le_trans old.1 a, old.2, old.3 ∙ p, old.4 ∙ q))
        (g.each i l)

-- q is put in at an index, between lower and higher places
module _ {q : Place} {k at : ℕ} (r : List Near) (o : Ordered r k) (g : Gap r q.0 at) (room : length r < 256) where
  abbrev new : Near
  new = record { place = q; steps = k }

  abbrev more : List Near
  more = insert r at new

  data Index : ℕ → Type 0 where
    before : {j : ℕ} → j < at → Index j
    here : Index at
    after : {j : ℕ} → at ≤ j → j < length r → Index (suc j)

  size : length more ≡ length r + 1
  size = length-insert r at new g.within

  index : (j : ℕ) → j < length more → Index j
  index j l = ⊎_elim (λ b. before b) (λ b. ⊎_elim (λ (e : at ≡ j). rw (← e) here) above (eq-or-lt_of_le b)) (cases_lt j at)
    where
      above : at < j → Index j
      above b = let e : j ≡ suc (j - 1) = omega arith in rw e (after {j = j - 1} (omega arith) (omega (arith, size)))

  below : {j : ℕ} → j < at → get_or more j nowhere ≡ get_or r j nowhere
  below {j} b = get_or-insert_below r at new nowhere j b g.within

  middle : get_or more at nowhere ≡ new
  middle = get_or-insert_at r at new nowhere g.within

  above : {j : ℕ} → at ≤ j → get_or more (suc j) nowhere ≡ get_or r j nowhere
  above {j} a = rw add-one at (get_or-insert_above r at new nowhere j a g.within)

  place_below : {j : ℕ} → j < at → place_at more j ≡ place_at r j
  place_below b = ap (λ (x : Near). x.place.0) (below b)

  place_middle : place_at more at ≡ q.0
  place_middle = ap (λ (x : Near). x.place.0) middle

  place_above : {j : ℕ} → at ≤ j → place_at more (suc j) ≡ place_at r j
  place_above a = ap (λ (x : Near). x.place.0) (above a)

  steps_below : {j : ℕ} → j < at → steps_at more j ≡ steps_at r j
  steps_below b = ap (λ (x : Near). x.steps) (below b)

  steps_middle : steps_at more at ≡ k
  steps_middle = ap (λ (x : Near). x.steps) middle

  steps_above : {j : ℕ} → at ≤ j → steps_at more (suc j) ≡ steps_at r j
  steps_above a = ap (λ (x : Near). x.steps) (above a)

  each : {j : ℕ} → Index j → (Memᴰ (place_at more j) (q.0 ∷ []) × (steps_at more j ≡ k))
      ⊎ ((i : ℕ) × (i ≤ j) × (i < length r) × (place_at r i ≡ place_at more j) × (steps_at r i ≡ steps_at more j))
  each (before {j} b) = inr (j, le_refl j, omega (arith, g.within), sym (place_below b), sym (steps_below b))
  each here = inl (Memᴰ.head place_middle, steps_middle)
  each (after {j} a b) = inr (j, omega arith, b, sym (place_above a), sym (steps_above a))

  ascending : {i j : ℕ} → Index i → Index j → i < j → place_at more i < place_at more j
  ascending (before {j = i} a) (before {j} b) l = omega (arith, place_below a, place_below b, o.ascending i j l (omega (arith, g.within)))
  ascending (before {j = i} a) here l = omega (arith, place_below a, place_middle, g.low i a)
  ascending (before {j = i} a) (after {j} b c) l = omega (arith, place_below a, g.low i a, place_above b, g.high j b c)
  ascending here (before b) l = omega arith
  ascending here here l = omega arith
  ascending here (after {j} b c) l = omega (arith, place_middle, place_above b, g.high j b c)
  ascending (after a d) (before b) l = omega arith
  ascending (after a d) here l = omega arith
  ascending (after {j = i} a d) (after {j} b c) l = omega (arith, place_above a, place_above b, o.ascending i j (omega arith) c)

  low_at : {j : ℕ} → Index j → steps_at more j ≤ k
  low_at (before {j} b) = omega (arith, steps_below b, o.low j (omega (arith, g.within)))
  low_at here = omega (arith, steps_middle)
  low_at (after {j} a b) = omega (arith, steps_above a, o.low j b)

  kept : {t n : ℕ} → Has r t n → Has more t n
  kept (i, l, e, b) =
      ⊎_elim
      (λ c. (i, omega (arith, size), place_below c ∙ e, omega (arith, steps_below c)))
      (λ c. (suc i, omega (arith, size), place_above c ∙ e, omega (arith, steps_above c)))
      (cases_lt i at)

  pub joined_put : Joined (q.0 ∷ []) k r more
  joined_put =
      record {
        ordered =
            record {
              few = omega (arith, size);
              ascending = λ i j l b. ascending (index i (omega arith)) (index j b) l;
              low = λ j l. low_at (index j l);
            };
        most = omega (arith, size);
        each = λ j l. each (index j l);
        kept = kept;
        has = λ m. (at, omega (arith, size, g.within), place_middle ∙ sym (Memᴰ.eq_of_singleton m), omega (arith, steps_middle));
      }

pub joined_insert : {q : Place} {k at : ℕ} (r s : List Near) → Ordered r k → Gap r q.0 at → length r < 256
    → s ≡ insert r at (record { place = q; steps = k }) → Joined (q.0 ∷ []) k r s
joined_insert r s o g room e = rw e (joined_put r o g room)
