-- Words are big-endian everywhere.
use Rattle.std.specs.Prelude.{List, [], ◌∷◌, ℕ, zero, suc, ◌+◌, ◌*◌, ◌/◌, ◌%◌, ◌^◌, ◌<◌, length, get_or, take, drop}
use Rattle.std.proofs.lemmas.List.Edits.{sets}

-- each element is a byte, as a slice of bytes tells of its list
abbrev pub AreBytes : List ℕ → Type 0
AreBytes l = (i : ℕ) → get_or l i 0 < 256

-- the number that bytes stand for, the highest first
abbrev pub number : List ℕ → ℕ
number [] = 0
number (b ∷ bs) = b * 256 ^ length bs + number bs

-- the low n bytes of a number, the highest first
abbrev pub bytes : ℕ → ℕ → List ℕ
bytes zero v = []
bytes (suc n) v = v / 256 ^ n % 256 ∷ bytes n v

-- the n-byte number at an offset
abbrev pub number_at : ℕ → ℕ → List ℕ → ℕ
number_at n at l = number (take n (drop at l))

abbrev pub word_at : ℕ → List ℕ → ℕ
word_at = number_at 4

-- the low n bytes of a number, put at an offset
abbrev pub put_number : ℕ → ℕ → ℕ → List ℕ → List ℕ
put_number n at v l = sets l at (bytes n v)

abbrev pub put_word : ℕ → ℕ → List ℕ → List ℕ
put_word = put_number 4

-- the words of a list of bytes; fewer than four bytes at its end are none
abbrev pub words : List ℕ → List ℕ
words [] = []
words (a ∷ []) = []
words (a ∷ b ∷ []) = []
words (a ∷ b ∷ c ∷ []) = []
words (a ∷ b ∷ c ∷ d ∷ l) = number (a ∷ b ∷ c ∷ d ∷ []) ∷ words l
