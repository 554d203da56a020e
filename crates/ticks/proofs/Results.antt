-- Laws of an instruction's results: of the landing bytes that they take, and of putting them one by one.
use mathlib.Core.Path.{◌≡◌, refl, ◌∙◌, sym}
use mathlib.Core.Logic.{◌≢◌}
use mathlib.Core.List.{List, [], ◌∷◌, Memᴰ, Pairwise}
use Prim.Native.Nat.{ℕ, zero, suc, ◌+◌, ◌-◌, ◌≤◌, ◌<◌}
use native.Mathlib.Omega.{arith}
use native.Mathlib.Nat.{mod-lt}
use native.Mathlib.Numerals.{add-one}
use lib.ListN.{length, drop, drop_of_length-le}
use lib.Seq.{drop-cons, drop-nil, drop-drop}
use Rattle.vliw.specs.Cell.{Registers, put, puts, choose, others}
use Rattle.vliw.specs.Machine.{Dest, writes, bytes_left}
use Rattle.ticks.specs.declared.Register.{Register}
use Rattle.ticks.specs.declared.Made.{Made}
use Rattle.ticks.specs.Ticks.{register_at, dests_in, values_in, nothing_made, made_at, Clear}

-- ---- the landing bytes

pub choose_lt : (L : ℕ) (bs : List ℕ) → 0 < L → choose L bs < L
choose_lt L [] h = omega arith
choose_lt L (b ∷ bs) h = mod-lt b h

pub choose_past : (L i : ℕ) (bs : List ℕ) → length bs ≤ i → choose L (drop i bs) ≡ L - 1
choose_past L i bs h = rw (drop_of_length-le bs h)

others_drop : (i : ℕ) (bs : List ℕ) → others (drop i bs) ≡ drop (suc i) bs
others_drop zero [] = refl
others_drop zero (b ∷ bs) = refl
others_drop (suc i) [] = refl
others_drop (suc i) (b ∷ bs) = others_drop i bs

drop_others : (i : ℕ) (bs : List ℕ) → drop i (others bs) ≡ drop (suc i) bs
drop_others i [] = drop-nil i
drop_others i (b ∷ bs) = refl

bytes_dropped : (ms : List Made) (bs : List ℕ) → bytes_left (dests_in ms) (values_in ms) bs ≡ drop (length ms) bs
bytes_dropped [] bs = refl
bytes_dropped (m ∷ ms) bs = bytes_dropped ms (others bs) ∙ drop_others (length ms) bs

-- each result takes a landing byte
pub bytes_left_lem : (ms : List Made) (bs : List ℕ) (u : ℕ) → bytes_left (dests_in ms) (values_in ms) (drop u bs) ≡ drop (u + length ms) bs
bytes_left_lem ms bs u = bytes_dropped ms (drop u bs) ∙ drop-drop (length ms) u bs

-- ---- destinations

-- after the first is put the others are as clear
clear_others : {t : ℕ} {rs ns : List Register} (d : Dest) (ds : List Dest) → ((q : ℕ) → q ≢ d.reg → register_at ns q ≡ register_at rs q) → Clear t rs (d ∷ ds) → Clear t ns ds
clear_others {t} {rs} {ns} d ds e c = by c.apart
  where
    by : Pairwise (λ (d e : Dest). d.reg ≢ e.reg) (d ∷ ds) → Clear t ns ds
    by (Pairwise.cons h p) =
        record {
          landed = λ x m. rw (e x.reg (λ q. h x ∣ m ∣₁ (sym q))) (c.landed x (Memᴰ.tail m));
          apart = p;
        }

-- of those that are left, the first and the others
module _ (ms : List Made) (k : ℕ) (h : k < length ms) where
  left_lem : drop k ms ≡ made_at ms k ∷ drop (k + 1) ms
  left_lem = rw (drop-cons ms k nothing_made h, add-one k)

  pub clear_first : {t : ℕ} {rs : List Register} → Clear t rs (dests_in (drop k ms)) → (register_at rs (made_at ms k).register).land ≤ t
  clear_first c = (rw left_lem at c).landed _ (Memᴰ.head refl)

  pub clear_rest : {t : ℕ} {rs ns : List Register} → Clear t rs (dests_in (drop k ms)) → ((q : ℕ) → q ≢ (made_at ms k).register → register_at ns q ≡ register_at rs q)
      → Clear t ns (dests_in (drop (k + 1) ms))
  clear_rest c e = clear_others _ _ e (rw left_lem at c)

-- ---- the results from k on, put over the registers

abbrev pub put_from : List Made → List ℕ → ℕ → Registers → Registers
put_from ms bs k l = puts (writes (dests_in (drop k ms)) (values_in (drop k ms)) (drop k bs)) l

module _ (ms : List Made) (bs : List ℕ) (k : ℕ) (l f : Registers) where
  -- the first of those that are left is put
  pub put_turn : (m : Registers) → k < length ms
      → m ≡ put (record { reg = (made_at ms k).register; result = (made_at ms k).value; busy = (made_at ms k).delay - 1; landing = choose (made_at ms k).delay (drop k bs) }) l
      → put_from ms bs k l ≡ f → put_from ms bs (k + 1) m ≡ f
  put_turn m h e i = rw (e, add-one k) (rw (drop-cons ms k nothing_made h, others_drop k bs) at i)

  -- none is left
  pub put_end : length ms ≤ k → put_from ms bs k l ≡ f → l ≡ f
  put_end h e = rw (drop_of_length-le ms h) at e
