-- Laws of the image: an image and the place, the registers and the link that it holds give each other.
use mathlib.Core.Path.{◌≡◌, refl, sym, ap, ◌∙◌}
use mathlib.Core.List.{List, [], ◌∷◌, ◌++◌}
use Prim.Native.Nat.{ℕ, zero, suc, ◌+◌, ◌*◌, ◌/◌, ◌^◌, ◌≤◌, ◌<◌}
use native.Mathlib.Nat.{add-zero, zero-add, add-suc, suc-add, mod-lt, mod-eq_of_lt, zero-lt-suc, not-suc-le-zero, le_of_suc-le-suc}
use native.Mathlib.Numerals.{add-one}
use native.Mathlib.Omega.{arith}
use lib.ListN.{length, get_or, take, drop, length-append, length-drop, take-append-drop}
use lib.Seq.{sets, take-suc, take_all, length-take-le, drop-cons, drop-drop, drop-length, get_or-drop}
use Rattle.word.specs.Bytes.{AreBytes, number, bytes, word_at, put_word}
use Rattle.word.proofs.Bytes.{sets_append, sets_all, bytes_number, number_bytes, number_at_lt, are_bytes_take, are_bytes_drop}
use Rattle.vliw.specs.Cell.{Cell, Registers, still, at}
use Rattle.machine.specs.Image.{image_offset, place_in, link_in, cell_in, cells_from, registers_in, cell_bytes, register_bytes, image_of}

-- ---- the registers of an image

module _ (image : List ℕ) where
  cells_from_length : (r n : ℕ) → length (cells_from image r n) ≡ n
  cells_from_length r zero = refl
  cells_from_length r (suc n) = ap suc (cells_from_length (suc r) n)

  cells_from_at : (r n i : ℕ) → i < n → at (cells_from image r n) i ≡ cell_in image (r + i)
  cells_from_at r zero i h = absurd (not-suc-le-zero h)
  cells_from_at r (suc n) zero h = rw add-zero
  cells_from_at r (suc n) (suc i) h = rw (add-suc r i, ← suc-add r i) (cells_from_at (suc r) n i (le_of_suc-le-suc h))

  pub registers_length : length (registers_in image) ≡ 288
  unfolding registers_in
  registers_length = cells_from_length 0 288

  pub register_at : (r : ℕ) → r < 288 → at (registers_in image) r ≡ cell_in image r
  unfolding registers_in
  register_at r h = rw zero-add at (cells_from_at 0 288 r h)

-- ---- the bytes of registers

pub register_bytes_length : (l : Registers) → length (register_bytes l) ≡ 10 * length l
register_bytes_length [] = refl
register_bytes_length (c ∷ l) = omega (arith, register_bytes_length l)

pub register_bytes_append : (l m : Registers) → register_bytes (l ++ m) ≡ register_bytes l ++ register_bytes m
register_bytes_append [] m = refl
register_bytes_append (c ∷ l) m = rw (register_bytes_append l m)

-- ---- an image that is filled register by register, from the place on

-- the next is put after the first r
pub put_next : (l : Registers) (start : List ℕ) (r : ℕ) {image after : List ℕ} {c : Cell} → r < length l
    → image ≡ sets start (image_offset 0) (register_bytes (take r l)) → c ≡ at l r → after ≡ sets image (image_offset r) (cell_bytes c)
    → after ≡ sets start (image_offset 0) (register_bytes (take (r + 1) l))
put_next l start r h e is put =
    rw (put, is, e, add-one r, take-suc l r still h, register_bytes_append)
    (sets_append start (image_offset 0) (register_bytes (take r l)) (cell_bytes (at l r)) (omega (arith, register_bytes_length (take r l), length-take-le r l (omega arith))))

-- all are put, and the link
pub put_all : (l : Registers) (start : List ℕ) (r place link : ℕ) {image after : List ℕ} → length l ≡ 288 → r ≡ 288 → length start ≡ 2888
    → image ≡ sets (put_word 0 place start) (image_offset 0) (register_bytes (take r l)) → after ≡ put_word (image_offset 288) link image
    → after ≡ image_of place l link
unfolding image_of
put_all l start r place link n d e is put =
    let b : List ℕ = register_bytes l in
    let w : List ℕ = bytes 4 place ++ b in
    let k : List ℕ = bytes 4 link in
    let m : length w ≡ 2884 = omega (arith, register_bytes_length l) in
    rw (put, is, take_all r l (omega arith))
    (ap (λ (x : List ℕ). sets x 2884 k) (sets_append start 0 (bytes 4 place) b refl)
    ∙ sets_append start 0 w k (omega arith)
    ∙ sets_all start (w ++ k) (omega (arith, length-append w k)))

pub image_of_length : (place : ℕ) (l : Registers) (link : ℕ) → length l ≡ 288 → length (image_of place l link) ≡ 2888
unfolding image_of
image_of_length place l link e = omega (arith, register_bytes_length l, length-append (register_bytes l) (bytes 4 link))

-- ---- what an image holds is written as that image

module _ (image : List ℕ) (h : AreBytes image) where
  word_again : (o : ℕ) → o + 4 ≤ length image → bytes 4 (word_at o image) ++ drop (o + 4) image ≡ drop o image
  word_again o l =
      let d : List ℕ = drop o image in
      let e = bytes_number (take 4 d) (length-take-le 4 d (omega (arith, length-drop o image))) (are_bytes_take 4 d (are_bytes_drop o image h)) in
      ap (λ (x : List ℕ). x ++ drop (o + 4) image) e ∙ rw (← drop-drop 4 o image) (take-append-drop 4 d)

  cell_again : (r : ℕ) → image_offset (suc r) ≤ length image → cell_bytes (cell_in image r) ++ drop (image_offset (suc r)) image ≡ drop (image_offset r) image
  cell_again r l =
      let o : ℕ = image_offset r in
      let c : Cell = cell_in image r in
      let e₄ : o + 4 + 4 ≡ o + 8 = omega arith in
      let e₈ : suc (o + 8) ≡ o + 9 = omega arith in
      let e₉ : suc (o + 9) ≡ image_offset (suc r) = omega arith in
      let counts : c.busy ∷ c.landing ∷ drop (image_offset (suc r)) image ≡ drop (o + 4 + 4) image =
      rw (e₄, drop-cons image (o + 8) 0 (omega arith), e₈, drop-cons image (o + 9) 0 (omega arith), e₉) in
      ap (λ (x : List ℕ). bytes 4 c.value ++ (bytes 4 c.waiting ++ x)) counts
      ∙ ap (λ (x : List ℕ). bytes 4 c.value ++ x) (word_again (o + 4) (omega arith))
      ∙ word_again o (omega arith)

  cells_again : (r n e : ℕ) → r + n ≡ e → image_offset e ≤ length image → register_bytes (cells_from image r n) ++ drop (image_offset e) image ≡ drop (image_offset r) image
  cells_again r zero e q l = let here : e ≡ r = omega arith in rw here
  cells_again r (suc n) e q l =
      ap (λ (x : List ℕ). cell_bytes (cell_in image r) ++ x) (cells_again (suc r) n e (omega arith) l) ∙ cell_again r (omega arith)

  -- the link is the last
  link_again : (o : ℕ) → o + 4 ≡ length image → bytes 4 (word_at o image) ≡ drop o image
  link_again o e = rw (e, drop-length image) at (word_again o (omega arith))

pub image_read : (image : List ℕ) → length image ≡ 2888 → AreBytes image → image_of (place_in image) (registers_in image) (link_in image) ≡ image
unfolding image_of registers_in
image_read image e h =
    ap (λ (x : List ℕ). bytes 4 (place_in image) ++ (register_bytes (cells_from image 0 288) ++ x)) (link_again image h (image_offset 288) (sym e))
    ∙ ap (λ (x : List ℕ). bytes 4 (place_in image) ++ x) (cells_again image h 0 288 288 refl (omega arith))
    ∙ word_again image h 0 (omega arith)

-- ---- what an image is written from is read of it

-- a register that its ten bytes hold
pub record Small (c : Cell) : Type 0 where
  pub value : c.value < 2 ^ 32
  pub waiting : c.waiting < 2 ^ 32
  pub busy : c.busy < 256
  pub landing : c.landing < 256

abbrev pub AllSmall : Registers → Type 0
AllSmall l = (r : ℕ) → Small (at l r)

word_back : (image : List ℕ) (o v : ℕ) (rest : List ℕ) → v < 2 ^ 32 → drop o image ≡ bytes 4 v ++ rest → word_at o image ≡ v
word_back image o v rest h e = ap (λ (x : List ℕ). number (take 4 x)) e ∙ number_bytes 4 v ∙ mod-eq_of_lt h

cell_back : (image : List ℕ) (r : ℕ) (c : Cell) (rest : List ℕ) → Small c → drop (image_offset r) image ≡ cell_bytes c ++ rest → cell_in image r ≡ c
cell_back image r c rest s e =
    let o : ℕ = image_offset r in
    λ k.
    record {
      value = word_back image o c.value _ s.value e k;
      waiting = word_back image (o + 4) c.waiting _ s.waiting (sym (drop-drop 4 o image) ∙ ap (drop 4) e) k;
      busy = (sym (get_or-drop o image 8 0) ∙ ap (λ (x : List ℕ). get_or x 8 0) e) k;
      landing = (sym (get_or-drop o image 9 0) ∙ ap (λ (x : List ℕ). get_or x 9 0) e) k;
    }

module _ (image rest : List ℕ) where
  later_cells : (r : ℕ) (c : Cell) (l : Registers) → drop (image_offset r) image ≡ register_bytes (c ∷ l) ++ rest → drop (image_offset (suc r)) image ≡ register_bytes l ++ rest
  later_cells r c l e = let next : image_offset r + 10 ≡ image_offset (suc r) = omega arith in rw (← next, ← drop-drop 10 (image_offset r) image, e)

  cells_back : (r : ℕ) (l : Registers) → AllSmall l → drop (image_offset r) image ≡ register_bytes l ++ rest → cells_from image r (length l) ≡ l
  cells_back r [] s e = refl
  cells_back r (c ∷ l) s e =
      λ k. cell_back image r c (register_bytes l ++ rest) (s 0) e k ∷ cells_back (suc r) l (λ i. s (suc i)) (later_cells r c l e) k

  -- what comes after them
  cells_end : (r e : ℕ) (l : Registers) → r + length l ≡ e → drop (image_offset r) image ≡ register_bytes l ++ rest → drop (image_offset e) image ≡ rest
  cells_end r e [] q h = let here : e ≡ r = omega arith in rw here h
  cells_end r e (c ∷ l) q h = cells_end (suc r) e l (omega arith) (later_cells r c l h)

-- what an image that is written holds
pub record Holds (image : List ℕ) (i : ℕ) (l : Registers) (k : ℕ) : Type 0 where
  pub place : place_in image ≡ i
  pub registers : registers_in image ≡ l
  pub link : link_in image ≡ k

pub read_image : (place : ℕ) (l : Registers) (link : ℕ) → place < 2 ^ 32 → link < 2 ^ 32 → length l ≡ 288 → AllSmall l → Holds (image_of place l link) place l link
unfolding image_of registers_in
read_image place l link h k e s =
    let image : List ℕ = image_of place l link in
    record {
      place = word_back image 0 place _ h refl;
      registers = ap (cells_from image 0) (sym e) ∙ cells_back image (bytes 4 link) 0 l s refl;
      link = word_back image (image_offset 288) link [] k (cells_end image (bytes 4 link) 0 288 l (zero-add (length l) ∙ e) refl);
    }

-- ---- bytes hold small registers, and those make bytes

module _ (image : List ℕ) (h : AreBytes image) where
  cells_from_small : (r n : ℕ) → AllSmall (cells_from image r n)
  cells_from_small r zero i = record { value = omega arith; waiting = omega arith; busy = omega arith; landing = omega arith }
  cells_from_small r (suc n) zero =
      record {
        value = number_at_lt 4 (image_offset r) image h;
        waiting = number_at_lt 4 (image_offset r + 4) image h;
        busy = h (image_offset r + 8);
        landing = h (image_offset r + 9);
      }
  cells_from_small r (suc n) (suc i) = cells_from_small (suc r) n i

  pub link_small : link_in image < 2 ^ 32
  link_small = number_at_lt 4 (image_offset 288) image h

  pub registers_small : AllSmall (registers_in image)
  unfolding registers_in
  registers_small = cells_from_small 0 288

bytes_then : (n v : ℕ) (l : List ℕ) → AreBytes l → AreBytes (bytes n v ++ l)
bytes_then zero v l h i = h i
bytes_then (suc n) v l h zero = mod-lt (v / 256 ^ n) (zero-lt-suc 255)
bytes_then (suc n) v l h (suc i) = bytes_then n v l h i

two_then : {a b : ℕ} (l : List ℕ) → a < 256 → b < 256 → AreBytes l → AreBytes (a ∷ b ∷ l)
two_then l p q h zero = p
two_then l p q h (suc zero) = q
two_then l p q h (suc (suc i)) = h i

registers_then : (l : Registers) (rest : List ℕ) → AllSmall l → AreBytes rest → AreBytes (register_bytes l ++ rest)
registers_then [] rest s h i = h i
registers_then (c ∷ l) rest s h i =
    let counts : List ℕ = c.busy ∷ c.landing ∷ register_bytes l ++ rest in
    let k : AreBytes counts = two_then (register_bytes l ++ rest) (s 0).busy (s 0).landing (registers_then l rest (λ r. s (suc r)) h) in
    bytes_then 4 c.value (bytes 4 c.waiting ++ counts) (bytes_then 4 c.waiting counts k) i

pub image_of_are_bytes : (place : ℕ) (l : Registers) (link : ℕ) → AllSmall l → AreBytes (image_of place l link)
unfolding image_of
image_of_are_bytes place l link s = bytes_then 4 place (register_bytes l ++ bytes 4 link) (registers_then l (bytes 4 link) s (bytes_then 4 link [] (λ i. zero-lt-suc 255)))
