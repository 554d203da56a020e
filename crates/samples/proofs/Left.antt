-- What a call leaves that starts at zeros: its number, room, memory and registers are the machine's, so no image has to be computed.
use mathlib.Core.Path.{◌≡◌, refl, ap, ◌∙◌}
use mathlib.Core.Bool.{true, false}
use mathlib.Core.List.{List, []}
use Prim.Native.Nat.{ℕ, zero, suc, ◌+◌, ◌-◌, ◌≤◌}
use native.Mathlib.Omega.{arith}
use lib.ListN.{get_or, take, drop, replicate}
use lib.Seq.{get_or-drop, drop-drop}
use Rattle.word.specs.Bytes.{AreBytes, number, number_at}
use Rattle.vliw.specs.Run.{number_of}
use Rattle.vliw.specs.Cell.{Registers, still, at}
use Rattle.isa.specs.Program.{is_start}
use Rattle.loader.specs.Answer.{answer, room_with}
use Rattle.machine.specs.Image.{image_offset, place_in, link_in, cells_from, registers_in}
use Rattle.machine.specs.Valid.{bad_state}
use Rattle.call.specs.Run.{Call, Outcome, ran_of, run_outcome}
use Rattle.demands.specs.Calls.{Lent}
use Rattle.demands.proofs.Taken.{Taken, taken_runs}
use Rattle.demands.proofs.Held.{left_held}
use Rattle.samples.specs.WrongRun.{zeros}

module _ {A : Type 0} (a : A) where
  pub all_same : (n i : ℕ) → get_or (replicate n a) i a ≡ a
  all_same zero i = refl
  all_same (suc n) zero = refl
  all_same (suc n) (suc i) = all_same n i

-- zeros hold the number 0 wherever it is read, so that no byte of an image of zeros is computed
none_held : (k : ℕ) → number (take k []) ≡ 0
none_held zero = refl
none_held (suc k) = refl

first_held : (k n : ℕ) → number (take k (replicate n 0)) ≡ 0
first_held zero n = refl
first_held (suc k) zero = refl
first_held (suc k) (suc n) = omega (arith, first_held k n)

zero_held : (k at n : ℕ) → number_at k at (replicate n 0) ≡ 0
zero_held k zero n = first_held k n
zero_held k (suc at) zero = none_held k
zero_held k (suc at) (suc n) = zero_held k at n

module _ (image : List ℕ) (skip size : ℕ) (rest : drop skip image ≡ replicate size 0) where
  past : (at : ℕ) → skip ≤ at → skip + (at - skip) ≡ at
  past at h = omega arith

  number_past : (k at : ℕ) → skip ≤ at → number_at k at image ≡ 0
  number_past k at h = rw (← past at h, ← drop-drop (at - skip) skip image, rest) (zero_held k (at - skip) size)

  byte_past : (at : ℕ) → skip ≤ at → get_or image at 0 ≡ 0
  byte_past at h = rw (← past at h, ← get_or-drop skip image (at - skip) 0, rest) (all_same {A = ℕ} 0 size (at - skip))

  -- an image that ends in zeros: its registers from there on are still
  pub zero_cells : (r n : ℕ) → skip ≤ image_offset r → cells_from image r n ≡ replicate n still
  zero_cells r zero h = refl
  zero_cells r (suc n) h =
      rw (
        number_past 4 (image_offset r) h,
        number_past 4 (image_offset r + 4) (omega arith),
        byte_past (image_offset r + 8) (omega arith),
        byte_past (image_offset r + 9) (omega arith),
        zero_cells (suc r) n (omega arith),
      )

pub zero_image : registers_in zeros ≡ replicate 288 still
unfolding registers_in
zero_image = zero_cells zeros 0 2888 refl 0 288 (omega arith)

pub zero_link : link_in zeros ≡ 0
zero_link = zero_held 4 (image_offset 288) 2888

pub zeros_valid : (p : List ℕ) → is_start p (place_in zeros) ≡ true → bad_state p zeros ≡ false
unfolding bad_state
zeros_valid p start = rw (zero_image, start) refl

pub zeros_bytes : AreBytes zeros
zeros_bytes i = rw (all_same {A = ℕ} 0 2888 i) (omega arith)

module _ (c : Call) (t : Taken c) where
  pub number_left : (run_outcome c).result ≡ number_of (ran_of c).ending
  number_left = ap (λ (o : Outcome). o.result) (taken_runs c t)

  pub room_left : (run_outcome c).room ≡ (let r = ran_of c in room_with (answer (number_of r.ending) r.count r.state.place) c.room)
  room_left = ap (λ (o : Outcome). o.room) (taken_runs c t)

  pub memory_left : (run_outcome c).memory ≡ (ran_of c).state.memory.bytes
  memory_left = ap (λ (o : Outcome). o.memory) (taken_runs c t)

  pub place_left : Lent c → place_in (run_outcome c).state ≡ (ran_of c).state.place
  place_left l = ap (λ (o : Outcome). place_in o.state) (taken_runs c t) ∙ (left_held c t l).place

  pub link_left : Lent c → link_in (run_outcome c).state ≡ (ran_of c).state.memory.link
  link_left l = ap (λ (o : Outcome). link_in o.state) (taken_runs c t) ∙ (left_held c t l).link

  pub register_left : Lent c → (r : ℕ) → at (registers_in (run_outcome c).state) r ≡ at (ran_of c).state.registers r
  register_left l r =
      ap (λ (o : Outcome). at (registers_in o.state) r) (taken_runs c t) ∙ ap (λ (l : Registers). at l r) (left_held c t l).registers
