-- Laws of numbers in bytes: of the number and its bytes, of reads and puts at an offset, and of the words of a list.
use mathlib.Core.Path.{◌≡◌, refl, sym, ap, ◌∙◌}
use mathlib.Core.Logic.{◌⊎◌, inl, inr}
use mathlib.Core.List.{List, [], ◌∷◌, ◌++◌, append_assoc, append-nil}
use Prim.Native.Nat.{ℕ, zero, suc, ◌+◌, ◌-◌, ◌*◌, ◌/◌, ◌%◌, ◌^◌, ◌≤◌, ◌<◌}
use native.Mathlib.Nat.{suc-mul, pow-succ', one-le-pow, mul_assoc, mod-one, mod-eq_of_lt, mul-add-div_right, mul-add-mod_self_right, not-suc-le-zero, zero-lt-suc, add_assoc, lt_of_lt_of_le, pow-le-pow_right, add-zero, zero-add, div-add-mod'}
use native.Mathlib.Numerals.{add-one, add-four}
use native.Mathlib.Omega.{arith}
use lib.ListN.{length, get_or, take, drop, set, length-take, length-drop}
use lib.Seq.{drop-cons, get_or-drop, sets, length-sets, sets-eq, length-take-le, drop-length, take_at, drop_at, drop-set-lt, drop-set-add, take-set-le}
use lib.Arith.{digits_lt, digits_div, mod-mul}
use Rattle.word.specs.Bytes.{AreBytes, number, bytes, number_at, word_at, put_number, words}

pow_pos : (n : ℕ) → 0 < 256 ^ n
pow_pos n = one-le-pow n 256 (zero-lt-suc 255)

-- ---- a number and its bytes

pub bytes_length : (n v : ℕ) → length (bytes n v) ≡ n
bytes_length zero v = refl
bytes_length (suc n) v = ap suc (bytes_length n v)

pub number_lt : (l : List ℕ) → AreBytes l → number l < 256 ^ length l
number_lt [] h = omega arith
number_lt (b ∷ bs) h = rw pow-succ' (digits_lt (h 0) (number_lt bs (λ i. h (suc i))))

pub number_bytes : (n v : ℕ) → number (bytes n v) ≡ v % 256 ^ n
number_bytes zero v = sym (mod-one v)
number_bytes (suc n) v = rw (bytes_length n v, number_bytes n v, pow-succ') (sym (mod-mul v (zero-lt-suc 255) (pow_pos n)))

-- what stands above n bytes is no matter
bytes_low : (n q v : ℕ) → bytes n (q * 256 ^ n + v) ≡ bytes n v
bytes_low zero q v = refl
bytes_low (suc n) q v =
    let e : q * 256 ^ suc n ≡ q * 256 * 256 ^ n = rw pow-succ' (sym (mul_assoc q 256 (256 ^ n))) in
    rw (e, mul-add-div_right (pow_pos n) (q * 256) v, mul-add-mod_self_right, bytes_low n (q * 256) v)

bytes_back : (l : List ℕ) → AreBytes l → bytes (length l) (number l) ≡ l
bytes_back [] h = refl
bytes_back (b ∷ bs) h =
    let rest : AreBytes bs = λ i. h (suc i) in
    rw (digits_div b (number_lt bs rest), mod-eq_of_lt (h 0), bytes_low (length bs) b (number bs), bytes_back bs rest)

pub bytes_number : {n : ℕ} (l : List ℕ) → length l ≡ n → AreBytes l → bytes n (number l) ≡ l
bytes_number l e h = rw (← e) (bytes_back l h)

-- ---- reads at an offset

pub are_bytes_drop : (n : ℕ) (l : List ℕ) → AreBytes l → AreBytes (drop n l)
are_bytes_drop n l h i = rw get_or-drop (h (n + i))

pub are_bytes_take : (n : ℕ) (l : List ℕ) → AreBytes l → AreBytes (take n l)
are_bytes_take zero l h i = zero-lt-suc 255
are_bytes_take (suc n) [] h i = zero-lt-suc 255
are_bytes_take (suc n) (x ∷ xs) h zero = h 0
are_bytes_take (suc n) (x ∷ xs) h (suc i) = are_bytes_take n xs (λ k. h (suc k)) i

pub number_at_lt : (n at : ℕ) (l : List ℕ) → AreBytes l → number_at n at l < 256 ^ n
number_at_lt n at l h =
    let p : List ℕ = take n (drop at l) in
    lt_of_lt_of_le (number_lt p (are_bytes_take n (drop at l) (are_bytes_drop at l h)))
    (pow-le-pow_right (zero-lt-suc 255) (omega (arith, length-take n (drop at l))))

pub number_at_suc : (n at : ℕ) (l : List ℕ) → at + n < length l → number_at (suc n) at l ≡ get_or l at 0 * 256 ^ n + number_at n (at + 1) l
number_at_suc n at l h =
    rw (add-one, drop-cons l at 0 (omega arith), length-take-le n (drop (suc at) l) (omega (arith, length-drop (suc at) l)))

pub word_at_sum : (at : ℕ) (l : List ℕ) → at + 3 < length l
    → word_at at l ≡ get_or l at 0 * 2 ^ 24 + get_or l (at + 1) 0 * 2 ^ 16 + get_or l (at + 2) 0 * 2 ^ 8 + get_or l (at + 3) 0
word_at_sum at l h =
    let b : ℕ = at + 1 in
    rw (← add_assoc at 1 2, ← add_assoc at 1 1, ← add_assoc b 1 1)
    (omega (arith, number_at_suc 3 at l h, number_at_suc 2 b l (omega arith), number_at_suc 1 (b + 1) l (omega arith), number_at_suc 0 (b + 1 + 1) l (omega arith)))

-- ---- puts at an offset

pub put_number_length : (n at v : ℕ) (l : List ℕ) → length (put_number n at v l) ≡ length l
put_number_length n at v l = length-sets l at (bytes n v)

pub number_at_put : (n at v : ℕ) (l : List ℕ) → at + n ≤ length l → number_at n at (put_number n at v l) ≡ v % 256 ^ n
number_at_put n at v l h =
    rw (sets-eq (bytes n v) l at (rw (bytes_length n v) h), append_assoc, drop_at (take at l) _ at (length-take-le at l (omega arith)), take_at (bytes n v) _ n (bytes_length n v)) (number_bytes n v)

-- a part that the stores miss is as it was
part_set : (m to : ℕ) (l : List ℕ) (i a : ℕ) → (to + m ≤ i) ⊎ (i < to) → take m (drop to (set l i a)) ≡ take m (drop to l)
part_set m to l i a (inl h) =
    let e : to + (i - to) ≡ i = omega arith in
    rw (← e, drop-set-add to l (i - to) a) (take-set-le m (drop to l) (i - to) a (omega arith))
part_set m to l i a (inr h) = rw (drop-set-lt to l i a h)

part_sets : (m to : ℕ) (vs l : List ℕ) (i : ℕ) → (to + m ≤ i) ⊎ (i + length vs ≤ to) → take m (drop to (sets l i vs)) ≡ take m (drop to l)
part_sets m to [] l i h = refl
part_sets m to (a ∷ vs) l i (inl h) = part_sets m to vs (set l i a) (suc i) (inl (omega arith)) ∙ part_set m to l i a (inl h)
part_sets m to (a ∷ vs) l i (inr h) = part_sets m to vs (set l i a) (suc i) (inr (omega arith)) ∙ part_set m to l i a (inr (omega arith))

pub number_at_other : (n at v : ℕ) (l : List ℕ) (m to : ℕ) → (to + m ≤ at) ⊎ (at + n ≤ to) → number_at m to (put_number n at v l) ≡ number_at m to l
number_at_other n at v l m to h = ap number (part_sets m to (bytes n v) l at (rw (bytes_length n v) h))

-- ---- the words of a list of bytes

pub words_length : (l : List ℕ) → length (words l) ≡ length l / 4
words_length [] = refl
words_length (a ∷ []) = refl
words_length (a ∷ b ∷ []) = refl
words_length (a ∷ b ∷ c ∷ []) = refl
words_length (a ∷ b ∷ c ∷ d ∷ l) = omega (arith, words_length l)

pub words_at : (l : List ℕ) (i : ℕ) → i < length l / 4 → get_or (words l) i 0 ≡ word_at (i * 4) l
words_at [] i h = absurd (not-suc-le-zero h)
words_at (a ∷ []) i h = absurd (not-suc-le-zero h)
words_at (a ∷ b ∷ []) i h = absurd (not-suc-le-zero h)
words_at (a ∷ b ∷ c ∷ []) i h = absurd (not-suc-le-zero h)
words_at (a ∷ b ∷ c ∷ d ∷ l) zero h = refl
words_at (a ∷ b ∷ c ∷ d ∷ l) (suc i) h = rw (suc-mul, add-four) (words_at l i (omega arith))

pub words_drop : (a : ℕ) (l : List ℕ) → words (drop (a * 4) l) ≡ drop a (words l)
words_drop zero l = refl
words_drop (suc n) [] = rw (suc-mul, add-four)
words_drop (suc n) (a ∷ []) = rw (suc-mul, add-four)
words_drop (suc n) (a ∷ b ∷ []) = rw (suc-mul, add-four)
words_drop (suc n) (a ∷ b ∷ c ∷ []) = rw (suc-mul, add-four)
words_drop (suc n) (a ∷ b ∷ c ∷ d ∷ l) = rw (suc-mul, add-four) (words_drop n l)

pub words_take : (n : ℕ) (l : List ℕ) → words (take (n * 4) l) ≡ take n (words l)
words_take zero l = refl
words_take (suc n) [] = rw (suc-mul, add-four)
words_take (suc n) (a ∷ []) = rw (suc-mul, add-four)
words_take (suc n) (a ∷ b ∷ []) = rw (suc-mul, add-four)
words_take (suc n) (a ∷ b ∷ c ∷ []) = rw (suc-mul, add-four)
words_take (suc n) (a ∷ b ∷ c ∷ d ∷ l) = rw (suc-mul, add-four, words_take n l)

pub words_part : (n a : ℕ) (l : List ℕ) → words (take (n * 4) (drop (a * 4) l)) ≡ take n (drop a (words l))
words_part n a l = words_take n (drop (a * 4) l) ∙ ap (take n) (words_drop a l)

-- a run of stores, and one after it
pub sets_append : (l : List ℕ) (i : ℕ) (xs ys : List ℕ) {j : ℕ} → i + length xs ≡ j → sets (sets l i xs) j ys ≡ sets l i (xs ++ ys)
sets_append l i [] ys e = rw (← e, add-zero)
sets_append l i (x ∷ xs) ys e = sets_append (set l i x) (suc i) xs ys (omega arith)

-- stores over the whole list
pub sets_all : (l xs : List ℕ) → length xs ≡ length l → sets l 0 xs ≡ xs
sets_all l xs e = rw (sets-eq xs l 0 (omega arith), zero-add, e, drop-length) (append-nil xs)

-- a number's low bytes are those of its remainder
pub bytes_mod : (n v : ℕ) → bytes n (v % 256 ^ n) ≡ bytes n v
bytes_mod n v = sym (bytes_low n (v / 256 ^ n) (v % 256 ^ n)) ∙ ap (bytes n) (div-add-mod' v (256 ^ n))
