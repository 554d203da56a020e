-- A state is its place, its registers and its link: arrays of one length are what their registers hold.
use mathlib.Core.Path.{◌≡◌, refl, sym, ap, ◌∙◌}
use mathlib.Core.List.{List, [], ◌∷◌, map}
use Prim.Native.Nat.{ℕ}
use native.Mathlib.Omega.{arith}
use lib.ListN.{length, take, drop}
use lib.Seq.{take-append_seam, drop-append_seam}
use Rattle.vliw.specs.Cell.{Cell, Registers}
use Rattle.isa.specs.declared.Place.{Place}
use Rattle.machine.specs.State.{cells, registers_of, Sized}
use Rattle.machine.specs.declared.State.{State}
use Rattle.machine.proofs.Arrays.{Long, long, cells_length, general_of, branch_of, general, branch}

pub place_is : {p q : Place} → p.0 ≡ q.0 → p ≡ q
place_is e = λ i. record { 0 = e i }

-- each array is a column of the registers
record Columns (l : Registers) (vs ws bs ls : List ℕ) : Type 0 where
  value : map (λ (c : Cell). c.value) l ≡ vs
  waiting : map (λ (c : Cell). c.waiting) l ≡ ws
  busy : map (λ (c : Cell). c.busy) l ≡ bs
  landing : map (λ (c : Cell). c.landing) l ≡ ls

columns : {n : ℕ} {vs ws bs ls : List ℕ} → Long n vs ws bs ls → Columns (cells vs ws bs ls) vs ws bs ls
columns {vs = []} {ws = []} {bs = []} {ls = []} h = record { value = refl; waiting = refl; busy = refl; landing = refl }
columns {vs = []} {ws = []} {bs = []} {ls = u ∷ ls} h = absurd (omega arith)
columns {vs = []} {ws = []} {bs = z ∷ bs} h = absurd (omega arith)
columns {vs = []} {ws = y ∷ ws} h = absurd (omega arith)
columns {vs = x ∷ vs} {ws = []} h = absurd (omega arith)
columns {vs = x ∷ vs} {ws = y ∷ ws} {bs = []} h = absurd (omega arith)
columns {vs = x ∷ vs} {ws = y ∷ ws} {bs = z ∷ bs} {ls = []} h = absurd (omega arith)
columns {vs = x ∷ vs} {ws = y ∷ ws} {bs = z ∷ bs} {ls = u ∷ ls} h =
    let rest : Long (length vs) vs ws bs ls = long (omega arith, omega arith, omega arith) in
    let c = columns rest in
    record {
      value = ap (λ (l : List ℕ). x ∷ l) c.value;
      waiting = ap (λ (l : List ℕ). y ∷ l) c.waiting;
      busy = ap (λ (l : List ℕ). z ∷ l) c.busy;
      landing = ap (λ (l : List ℕ). u ∷ l) c.landing;
    }

arrays_are : {l m : Registers} {vs ws bs ls ys zs cs ks : List ℕ} → Columns l vs ws bs ls → Columns m ys zs cs ks → l ≡ m
    → (vs ≡ ys) × (ws ≡ zs) × (bs ≡ cs) × (ls ≡ ks)
arrays_are g h e = (
  sym g.value ∙ ap (map (λ (c : Cell). c.value)) e ∙ h.value,
  sym g.waiting ∙ ap (map (λ (c : Cell). c.waiting)) e ∙ h.waiting,
  sym g.busy ∙ ap (map (λ (c : Cell). c.busy)) e ∙ h.busy,
  sym g.landing ∙ ap (map (λ (c : Cell). c.landing)) e ∙ h.landing,
)

module _ {s t : State} (x : Sized s) (y : Sized t) (e : registers_of s ≡ registers_of t) where
  seam : length (general_of s) ≡ length (general_of t)
  seam = cells_length (general x) ∙ sym (cells_length (general y))

  generals : general_of s ≡ general_of t
  generals =
      sym (take-append_seam (general_of s) (branch_of s)) ∙ ap (take (length (general_of s))) e
      ∙ rw seam (take-append_seam (general_of t) (branch_of t))

  branches : branch_of s ≡ branch_of t
  branches =
      sym (drop-append_seam (general_of s) (branch_of s)) ∙ ap (drop (length (general_of s))) e
      ∙ rw seam (drop-append_seam (general_of t) (branch_of t))

  pub state_is : s.place.0 ≡ t.place.0 → s.link.0 ≡ t.link.0 → s ≡ t
  state_is p k =
      let g = arrays_are (columns (general x)) (columns (general y)) generals in
      let b = arrays_are (columns (branch x)) (columns (branch y)) branches in
      λ i. record {
        place = place_is p i;
        link = place_is k i;
        value = g.0 i;
        waiting = g.1 i;
        busy = g.2 i;
        landing = g.3 i;
        branch_value = b.0 i;
        branch_waiting = b.1 i;
        branch_busy = b.2 i;
        branch_landing = b.3 i;
      }
