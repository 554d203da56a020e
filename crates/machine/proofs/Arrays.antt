-- Laws of the state's arrays as registers: four of one length, and the two banks of them.
use mathlib.Core.Path.{◌≡◌, refl, ◌∙◌, sym}
use mathlib.Core.List.{List, [], ◌∷◌, ◌++◌}
use Prim.Native.Nat.{ℕ, zero, suc, ◌+◌, ◌-◌, ◌≤◌, ◌<◌}
use native.Mathlib.Omega.{arith}
use native.Mathlib.Decide.{dec_lt}
use lib.ListN.{length, get_or, set, replicate, length-append, get_or-append}
use Rattle.std.proofs.lemmas.List.{set-append_left, set-append_right, length-replicate, get_or-replicate}
use borrow.Author.Count.{below_more}
use lib.Seq.{set-get_or, get_or-set_same, get_or-set_other, get_or-append-add}
use Rattle.vliw.specs.Cell.{Cell, Registers, still, at}
use Rattle.machine.specs.State.{cells, registers_of, Sized}
use Rattle.isa.specs.declared.Place.{Place}
use Rattle.machine.specs.declared.State.{State}

-- ---- four arrays of one length

pub record Long (n : ℕ) (vs ws bs ls : List ℕ) : Type 0 where
  pub value : length vs ≡ n
  pub waiting : length ws ≡ n
  pub busy : length bs ≡ n
  pub landing : length ls ≡ n

pub long : {vs ws bs ls : List ℕ} → (length ws ≡ length vs) × (length bs ≡ length vs) × (length ls ≡ length vs) → Long (length vs) vs ws bs ls
long h = record { value = refl; waiting = h.0; busy = h.1; landing = h.2 }

pub cells_length : {n : ℕ} {vs ws bs ls : List ℕ} → Long n vs ws bs ls → length (cells vs ws bs ls) ≡ n
cells_length {vs = []} h = h.value
cells_length {vs = x ∷ vs} {ws = []} h = h.waiting
cells_length {vs = x ∷ vs} {ws = y ∷ ws} {bs = []} h = h.busy
cells_length {vs = x ∷ vs} {ws = y ∷ ws} {bs = z ∷ bs} {ls = []} h = h.landing
cells_length {vs = x ∷ vs} {ws = y ∷ ws} {bs = z ∷ bs} {ls = u ∷ ls} h =
    let rest : Long (length vs) vs ws bs ls = long (omega arith, omega arith, omega arith) in
    omega (arith, cells_length rest)

-- a store to each array at one index is a store of the register
pub cells_set : (vs ws bs ls : List ℕ) (i v w b l : ℕ)
    → cells (set vs i v) (set ws i w) (set bs i b) (set ls i l) ≡ set (cells vs ws bs ls) i (record { value = v; waiting = w; busy = b; landing = l })
cells_set [] ws bs ls i v w b l = refl
cells_set (x ∷ vs) [] bs ls zero v w b l = refl
cells_set (x ∷ vs) [] bs ls (suc i) v w b l = refl
cells_set (x ∷ vs) (y ∷ ws) [] ls zero v w b l = refl
cells_set (x ∷ vs) (y ∷ ws) [] ls (suc i) v w b l = refl
cells_set (x ∷ vs) (y ∷ ws) (z ∷ bs) [] zero v w b l = refl
cells_set (x ∷ vs) (y ∷ ws) (z ∷ bs) [] (suc i) v w b l = refl
cells_set (x ∷ vs) (y ∷ ws) (z ∷ bs) (u ∷ ls) zero v w b l = refl
cells_set (x ∷ vs) (y ∷ ws) (z ∷ bs) (u ∷ ls) (suc i) v w b l = rw (cells_set vs ws bs ls i v w b l)

-- what the arrays hold at an index
abbrev pub cell_of : List ℕ → List ℕ → List ℕ → List ℕ → ℕ → Cell
cell_of vs ws bs ls i =
    record { value = get_or vs i 0; waiting = get_or ws i 0; busy = get_or bs i 0; landing = get_or ls i 0 }

-- a store of what stands there changes nothing
pub cells_at : {n : ℕ} {vs ws bs ls : List ℕ} → Long n vs ws bs ls → (i : ℕ) → i < n → at (cells vs ws bs ls) i ≡ cell_of vs ws bs ls i
cells_at {vs} {ws} {bs} {ls} h i l =
    let c : Cell = cell_of vs ws bs ls i in
    let e : cells vs ws bs ls ≡ set (cells vs ws bs ls) i c =
    simp set-get_or at (cells_set vs ws bs ls i c.value c.waiting c.busy c.landing) in
    rw e (get_or-set_same (cells vs ws bs ls) i c still (omega (arith, cells_length h)))

-- ---- the two banks

abbrev pub general_of : State → Registers
general_of s = cells s.value s.waiting s.busy s.landing

abbrev pub branch_of : State → Registers
branch_of s = cells s.branch_value s.branch_waiting s.branch_busy s.branch_landing

module _ {s : State} (z : Sized s) where
  pub general : Long 256 s.value s.waiting s.busy s.landing
  general = record { value = z.value; waiting = z.waiting; busy = z.busy; landing = z.landing }

  pub branch : Long 32 s.branch_value s.branch_waiting s.branch_busy s.branch_landing
  branch = record { value = z.branch_value; waiting = z.branch_waiting; busy = z.branch_busy; landing = z.branch_landing }

  pub registers_of_length : length (registers_of s) ≡ 288
  registers_of_length = omega (arith, length-append (general_of s) (branch_of s), cells_length general, cells_length branch)

  pub general_at_lem : (r : ℕ) → r < 256 → at (registers_of s) r ≡ cell_of s.value s.waiting s.busy s.landing r
  general_at_lem r h = get_or-append (general_of s) (branch_of s) still r (omega (arith, cells_length general)) ∙ cells_at general r h

  pub branch_at : (i : ℕ) → i < 32
      → at (registers_of s) (256 + i) ≡ cell_of s.branch_value s.branch_waiting s.branch_busy s.branch_landing i
  branch_at i h = rw (cells_length general) at (get_or-append-add (general_of s) (branch_of s) i still) ∙ cells_at branch i h

-- ---- a register of either bank, where the code reads one

pub register_general : (s : State) → Sized s → (r : ℕ) → r < 256 → cell_of s.value s.waiting s.busy s.landing r ≡ at (registers_of s) r
register_general s z r h = sym (general_at_lem z r h)

pub register_branch : (s : State) → Sized s → (r b : ℕ) → b ≡ r - 256 → 256 ≤ r → r < 288
    → cell_of s.branch_value s.branch_waiting s.branch_busy s.branch_landing b ≡ at (registers_of s) r
register_branch s z r b e l h = let p : 256 + b ≡ r = omega arith in rw p at (sym (branch_at z b (omega arith)))

-- ---- a register of either bank, where the code puts one

pub put_general : (s : State) → Sized s → (r v w b l : ℕ) → r < 256
    → cells (set s.value r v) (set s.waiting r w) (set s.busy r b) (set s.landing r l) ++ branch_of s
    ≡ set (registers_of s) r (record { value = v; waiting = w; busy = b; landing = l })
put_general s z r v w b l h =
    rw (cells_set s.value s.waiting s.busy s.landing r v w b l) (sym (set-append_left (general_of s) (branch_of s) r _ (omega (arith, cells_length (general z)))))

pub put_branch : (s : State) → Sized s → (r k v w b l : ℕ) → k ≡ r - 256 → 256 ≤ r
    → general_of s ++ cells (set s.branch_value k v) (set s.branch_waiting k w) (set s.branch_busy k b) (set s.branch_landing k l)
    ≡ set (registers_of s) r (record { value = v; waiting = w; busy = b; landing = l })
put_branch s z r k v w b l e h =
    rw (cells_set s.branch_value s.branch_waiting s.branch_busy s.branch_landing k v w b l, e) (sym (set-append_right (general_of s) (branch_of s) 256 r _ (cells_length (general z)) h))

-- ---- a state that is filled register by register

-- one more is put
pub put_more : (f : ℕ → Cell) (l m : Registers) (r : ℕ) (c : Cell) → r < length l → c ≡ f r → m ≡ set l r c
    → ((k : ℕ) → k < r → f k ≡ at l k) → (k : ℕ) → k < r + 1 → f k ≡ at m k
put_more f l m r c h is e i =
    below_more (λ k. f k ≡ at m k) r
    (λ k b. rw (e, get_or-set_other l r k c still (omega arith)) (i k b))
    (rw (e, get_or-set_same l r c still h) (sym is))

-- ---- a state whose arrays are all zero

abbrev pub zeros : Place → Place → State
zeros place link =
    record {
      place = place;
      link = link;
      value = replicate 256 0;
      waiting = replicate 256 0;
      busy = replicate 256 0;
      landing = replicate 256 0;
      branch_value = replicate 32 0;
      branch_waiting = replicate 32 0;
      branch_busy = replicate 32 0;
      branch_landing = replicate 32 0;
    }

zero_long : (n : ℕ) → length (replicate {A = ℕ} n 0) ≡ n
zero_long n = length-replicate {A = ℕ} n 0

still_of : (n i : ℕ) → i < n → cell_of (replicate n 0) (replicate n 0) (replicate n 0) (replicate n 0) i ≡ still
still_of n i h = rw (get_or-replicate {A = ℕ} n i 0 0 h) refl

pub still_at : (place link : Place) (r : ℕ) → r < 288 → at (registers_of (zeros place link)) r ≡ still
still_at place link r h = by (dec_lt r 256)
  where
    sized : Sized (zeros place link)
    sized =
        record {
          value = zero_long 256;
          waiting = zero_long 256;
          busy = zero_long 256;
          landing = zero_long 256;
          branch_value = zero_long 32;
          branch_waiting = zero_long 32;
          branch_busy = zero_long 32;
          branch_landing = zero_long 32;
        }

    by : Dec (r < 256) → at (registers_of (zeros place link)) r ≡ still
    by (yes l) = general_at_lem sized r l ∙ still_of 256 r l
    by (no l) =
        let e : 256 + (r - 256) ≡ r = omega arith in
        rw e at (branch_at sized (r - 256) (omega arith) ∙ still_of 32 (r - 256) (omega arith))
