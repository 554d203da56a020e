-- The tokens of a line. A word is the longest run of bytes that go on from its first; blanks part tokens and mean nothing more; any other byte
-- is a token of its own, a mark. "`#` and all after it on its line is a comment."
use Rattle.std.specs.Prelude.{Bool, true, false, ◌||◌, ◌&&◌, List, [], ◌∷◌, ℕ, eqb, leb}
use Prim.Native.Char.{code}
use Prim.Native.String.{String}
use Prim.Native.String as string
use Rattle.word.specs.Choice.{pick}

-- a text in quotes, as bytes
abbrev pub letters : String → List ℕ
letters string.[] = []
letters (string.◌∷◌ c s) = code c ∷ letters s

abbrev pub between : ℕ → ℕ → ℕ → Bool
between low high b = leb low b && leb b high

abbrev pub is_decimal : ℕ → Bool
is_decimal b = between 48 57 b

-- "a letter (`a` to `z`, `A` to `Z`) or `_`"
abbrev pub is_letter : ℕ → Bool
is_letter b = between 65 90 b || between 97 122 b || eqb b 95

-- "letters, digits, `_`, `?` or `.`"
abbrev pub is_word_byte : ℕ → Bool
is_word_byte b = is_decimal b || is_letter b || eqb b 63 || eqb b 46

-- "Blank, tab and carriage return separate"
abbrev pub is_blank : ℕ → Bool
is_blank b = eqb b 32 || eqb b 9 || eqb b 13

-- names and numbers, `$` of a register, and `;`
abbrev pub starts_word : ℕ → Bool
starts_word b = is_word_byte b || eqb b 36 || eqb b 59

-- a byte goes on a word that begins with b: semicolons run together, and so do the bytes of names, numbers and registers
abbrev pub goes_on : ℕ → ℕ → Bool
goes_on b c = pick (eqb b 59) (eqb c 59) (is_word_byte c)

abbrev pub first : (ℕ → Bool) → List ℕ → Bool
first f [] = false
first f (b ∷ s) = f b

-- two words are the same, byte by byte: "Upper and lower case differ."
abbrev pub same : List ℕ → List ℕ → Bool
same [] [] = true
same [] (b ∷ w) = false
same (a ∷ v) [] = false
same (a ∷ v) (b ∷ w) = eqb a b && same v w

pub data Token : Type 0 where
  Word : List ℕ → Token
  Mark : ℕ → Token

-- a byte before a text that begins with a word
abbrev pub longer : ℕ → List Token → List Token
longer b [] = []
longer b (Word w ∷ ts) = Word (b ∷ w) ∷ ts
longer b (Mark c ∷ ts) = Mark c ∷ ts

unfoldable pub tokens : List ℕ → List Token
tokens [] = []
tokens (b ∷ s) =
    pick (eqb b 35) []
    (pick (starts_word b)
    (pick (first (goes_on b) s) (longer b (tokens s)) (Word (b ∷ []) ∷ tokens s))
    (pick (is_blank b) (tokens s) (Mark b ∷ tokens s)))
