-- The order in which the results of one instruction are written does not matter, nor that of its stores: neither of two sees the other.
use mathlib.Core.Path.{◌≡◌, refl, ◌∙◌, ap, sym}
use mathlib.Core.Logic.{◌≢◌, ∥∥₁_elim}
use mathlib.Core.HLevel.{¬_prop}
use mathlib.Core.List.Pairwise
use mathlib.Core.List.{List, [], ◌∷◌, Memᴰ, Permᴰ, Pairwise}
use Prim.Native.Nat.{ℕ, ◌-◌}
use lib.Seq.{set_comm, get_or-set_other}
use Rattle.vliw.specs.Cell.{Registers, Write, still, at, written, put, puts, choose, others}
use Rattle.vliw.specs.Machine.{Dest, writes, stores}
use Rattle.vliw.proofs.Lists.{perm_mem}

-- one law for both: `all` acts by each of a list in turn
module _ {W S : Type 0} (act : W → S → S) (all : List W → S → S) (turn : (w : W) (ws : List W) (s : S) → all (w ∷ ws) s ≡ all ws (act w s)) where
  abbrev Swap : W → W → Type 0
  Swap a b = (s : S) → act b (act a s) ≡ act a (act b s)

  -- `Pairwise` forgets the places, and so no order of a list keeps it for a relation that is no proposition: this does
  abbrev AnyTwo : List W → Type 0
  AnyTwo l = (a b : W) → Memᴰ a l → Memᴰ b l → Swap a b

  any_two : {l : List W} → Pairwise Swap l → AnyTwo l
  any_two Pairwise.nil a b m n s = elim m [ ]
  any_two (Pairwise.cons h t) a b (Memᴰ.head p) (Memᴰ.head q) s = rw (p, q)
  any_two (Pairwise.cons h t) a b (Memᴰ.head p) (Memᴰ.tail n) s = rw p (h b ∣ n ∣₁ s)
  any_two (Pairwise.cons h t) a b (Memᴰ.tail m) (Memᴰ.head q) s = rw q (sym (h a ∣ m ∣₁ s))
  any_two (Pairwise.cons h t) a b (Memᴰ.tail m) (Memᴰ.tail n) s = any_two t a b m n s

  reordered : {us ws : List W} → Permᴰ us ws → AnyTwo us → (s : S) → all us s ≡ all ws s
  reordered Permᴰ.nil two s = refl
  reordered (Permᴰ.cons {a = a} e d) two s =
      simp (turn, ← e) (reordered d (λ x y m n. two x y (Memᴰ.tail m) (Memᴰ.tail n)) (act a s))
  reordered (Permᴰ.swap {a = a} {b = b} {l = l} p q) two s =
      simp (turn, ← p, ← q) (ap (all l) (two a b (Memᴰ.head refl) (Memᴰ.tail (Memᴰ.head refl)) s))
  reordered (Permᴰ.trans d e) two s = reordered d two s ∙ reordered e (λ x y m n. two x y (perm_mem d m) (perm_mem d n)) s

  any_order : {us ws : List W} → Permᴰ us ws → Pairwise Swap us → (s : S) → all ws s ≡ all us s
  any_order d h s = sym (reordered d (any_two h) s)

pub stores_order : {Memory Store : Type 0} (store : Store → Memory → Memory) {ss ts : List Store} → Permᴰ ss ts
    → Pairwise (λ (a b : Store). (m : Memory) → store b (store a m) ≡ store a (store b m)) ss → (m : Memory) → stores store ts m ≡ stores store ss m
stores_order store = any_order store (stores store) (λ s ss m. refl)

-- the write of one destination, with the landing bytes that are left
abbrev pub result : Dest → ℕ → List ℕ → Write
result d v bs = record { reg = d.reg; result = v; busy = d.delay - 1; landing = choose d.delay bs }

-- what the write of each destination has, each write has
pub each_write : (P : Write → Type 0) (ds : List Dest) (vs bs : List ℕ) → ((d : Dest) (v : ℕ) (cs : List ℕ) → Memᴰ d ds → P (result d v cs))
    → {w : Write} → Memᴰ w (writes ds vs bs) → P w
each_write P [] vs bs h m = elim m [ ]
each_write P (d ∷ ds) [] bs h m = elim m [ ]
each_write P (d ∷ ds) (v ∷ vs) bs h (Memᴰ.head e) = rw e (h d v bs (Memᴰ.head refl))
each_write P (d ∷ ds) (v ∷ vs) bs h (Memᴰ.tail m) = each_write P ds vs (others bs) (λ e u cs n. h e u cs (Memᴰ.tail n)) m

-- writes are apart as their destinations are
apart : (ds : List Dest) (vs bs : List ℕ) → Pairwise (λ (d e : Dest). d.reg ≢ e.reg) ds → Pairwise (λ (u w : Write). u.reg ≢ w.reg) (writes ds vs bs)
apart [] vs bs h = Pairwise.nil
apart (d ∷ ds) [] bs h = Pairwise.nil
apart (d ∷ ds) (v ∷ vs) bs (Pairwise.cons h t) =
    Pairwise.cons
    (λ w m. ∥∥₁_elim m ¬_prop (each_write (λ u. d.reg ≢ u.reg) ds vs (others bs) (λ e u cs n. h e ∣ n ∣₁)))
    (apart ds vs (others bs) t)

put_swap : (a b : Write) → a.reg ≢ b.reg → (l : Registers) → put b (put a l) ≡ put a (put b l)
put_swap a b ne l =
    let en : b.reg ≢ a.reg = λ e. ne (sym e) in
    rw (get_or-set_other l a.reg b.reg _ still en, get_or-set_other l b.reg a.reg _ still ne)
    (set_comm l a.reg b.reg (written a (at l a.reg)) (written b (at l b.reg)) ne)

pub results_order : (ds : List Dest) (vs bs : List ℕ) → Pairwise (λ (d e : Dest). d.reg ≢ e.reg) ds → {ws : List Write} → Permᴰ (writes ds vs bs) ws
    → (l : Registers) → puts ws l ≡ puts (writes ds vs bs) l
results_order ds vs bs h p = any_order put puts (λ w ws l. refl) p (Pairwise.imp put_swap (apart ds vs bs h))
